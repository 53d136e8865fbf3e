use Rattle.std.specs.Prelude.{◌≡◌, ℕ, ◌<◌, false}
use Rattle.clause_log.specs.Literals.{truths}
use Rattle.decision_laws.specs.Copies.{Equation}
use Rattle.ground_inst.specs.Facts.{num_of}
use Rattle.lazy_ground.proofs.joining.has_join_below.Given as goal

abbrev pub invariant-constants : goal.invariant-constants
invariant-constants l = (b : ℕ) → b < l.b → truths l.trues (num_of l.facts (Equation l.sort l.a b)) ≡ false
