-- Histories: the states that a network goes through, with the event between each two.
use Rattle.std.specs.Prelude.{◌≡◌, ℕ, suc, List, length, slice_get, Some}
use Rattle.csdn_core.specs.declared.event.Event.{Event}
use Rattle.csdn_core.specs.declared.program.Parts.{Parts}
use Rattle.csdn_core.specs.Network.{Network, State}
use Rattle.csdn_core.specs.Run.{initial, Step}
use Rattle.csdn_core.specs.Holds.{IsTopology, IsSafe, KeepsTrans}

module _ (P : Parts) (N : Network) where
  -- a list of events and a list of states, one longer, in which each event leads from the state at its place to the next
  pub record IsHistory (start : State) (events : List Event) (states : List State) : Type 0 where
    pub one_longer : length states ≡ suc (length events)
    pub first : slice_get states 0 ≡ Some start
    pub step : (k : ℕ) (event : Event) (x y : State) → slice_get events k ≡ Some event → slice_get states k ≡ Some x → slice_get states (suc k) ≡ Some y → Step P N x event y

  -- in each history from the initial state, the safety invariants are true in every state, and the transition invariants after every event
  pub record HoldsInHistories : Type 0 where
    pub safety : (events : List Event) (states : List State) → IsHistory (initial P N) events states
        → (k : ℕ) (x : State) → slice_get states k ≡ Some x → IsSafe P N x
    pub trans : (events : List Event) (states : List State) → IsHistory (initial P N) events states
        → (k : ℕ) (event : Event) (y : State) → slice_get events k ≡ Some event → slice_get states (suc k) ≡ Some y → KeepsTrans P N event y

-- in every network
abbrev pub HoldsInAllHistories : Parts → Type 0
HoldsInAllHistories P = (N : Network) → IsTopology P N → HoldsInHistories P N
