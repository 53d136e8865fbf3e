-- States that hold the initial tuples, as far as a network's elements go.
use Rattle.std.specs.Prelude.{◌≡◌, ℕ, Bool, true, false, not, List, Some, IsTrue}
use Rattle.csdn_core.specs.declared.terms.Sort.{Sort}
use Rattle.csdn_core.specs.declared.terms.Pred.{Pred}
use Rattle.csdn_core.specs.declared.terms.Pred.TheVariants.{Stored, Ft, Sent, RcvThis}
use Rattle.csdn_core.specs.declared.program.Parts.{Parts}
use Rattle.csdn_core.specs.Network.{Network, State, HaveElements, is_fixed}
use Rattle.csdn_core.specs.Run.{initial}
use Rattle.csdn_core.specs.Sorted.{sorts_of}
use Rattle.csdn_core.specs.WellSorted.{signature}

-- whether a relation belongs to states: a `rel`, `ft` or `sent`
abbrev pub is_of_states : Parts → Pred → Bool
is_of_states P (Stored r) = not (is_fixed P r.0)
is_of_states P Ft = true
is_of_states P Sent = true
is_of_states P RcvThis = false

-- in each relation of states exactly those tuples of elements of its sorts are that are there at the start
abbrev pub IsInitial : Parts → Network → State → Type 0
IsInitial P N x =
    (r : Pred) (sorts : List Sort) (cells : List ℕ) → IsTrue (is_of_states P r) → sorts_of (signature P) r ≡ Some sorts → HaveElements N sorts cells → x r cells ≡ initial P N r cells
