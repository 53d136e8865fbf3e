-- Induction over the states of a kind.
use Rattle.std.specs.Prelude.{◌≡◌, ℕ, suc, List, length}
use Rattle.csdn_core.specs.declared.event.Event.{Event}
use Rattle.csdn_core.specs.declared.program.Parts.{Parts}
use Rattle.csdn_core.specs.Network.{Network, State}
use Rattle.csdn_core.specs.Run.{initial, Step, Run}
use Rattle.csdn_core.specs.Holds.{IsSafe, IsSafeFor, KeepsTrans, IsTopology}
use Rattle.csdn_core.specs.Finite.{IsFinite}

-- n-inductive as far as it is asked of states of the kind
pub record IsInductiveAmong (Kind : State → Type 0) (P : Parts) (N : Network) (n : ℕ) : Type 0 where
  pub initially : IsSafeFor P N n (initial P N)
  pub safety : (x : State) (events : List Event) (y : State) → Kind x → IsSafeFor P N n x → length events ≡ suc n → Run P N x events y → IsSafe P N y
  pub trans : (x : State) (event : Event) (y : State) → Kind x → IsSafeFor P N n x → Step P N x event y → KeepsTrans P N event y

-- .. of states of finitely many tuples
abbrev pub IsInductiveFinitely : ℕ → Parts → Type 0
IsInductiveFinitely n P = (N : Network) → IsTopology P N → IsInductiveAmong IsFinite P N n
