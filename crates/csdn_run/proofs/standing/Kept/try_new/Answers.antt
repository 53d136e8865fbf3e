use Rattle.std.proofs.Common.{ap₂, ℕ}
use Rattle.csdn_core.specs.declared.event.Match.{Match}
use Rattle.csdn_core.specs.Network.{State}
use Rattle.csdn_run.proofs.standing.Kept.try_new.Goals as goal

pub returns : goal.returns
returns c = record {
  standing = ap₂ {B = Match → ℕ} (λ (x : State) (marks : Match → ℕ). record { state = x; marks = marks; count = 0 }) c.in_ok-initial.ensures c.in_ok-try_new.ensures;
}
