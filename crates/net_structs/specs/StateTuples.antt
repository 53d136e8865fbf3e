-- States of a network's elements.
use Rattle.std.specs.Prelude.{◌≡◌, ℕ, false, List, Some, IsTrue}
use Rattle.csdn_core.specs.declared.terms.Sort.{Sort}
use Rattle.csdn_core.specs.declared.terms.Pred.{Pred}
use Rattle.csdn_core.specs.declared.terms.Pred.TheVariants.{Stored, Ft, Sent, RcvThis}
use Rattle.csdn_core.specs.declared.program.Parts.{Parts}
use Rattle.csdn_core.specs.Network.{Network, State, is_fixed, HaveElements}
use Rattle.csdn_core.specs.Sorted.{sorts_of}
use Rattle.csdn_core.specs.WellSorted.{signature}
use Rattle.net_structs.specs.declared.row.Row.{Row}

-- a `rel`, `ft` or `sent`: what a state has tuples of
abbrev pub IsKept : Parts → Pred → Type 0
IsKept P (Stored r) = is_fixed P r.0 ≡ false
IsKept P Ft = Unit {0}
IsKept P Sent = Unit {0}
IsKept P RcvThis = ⊥

-- a tuple of such a relation, of elements of its sorts
pub record IsStateTuple (P : Parts) (N : Network) (row : Row) : Type 0 where
  pub kept : IsKept P row.pred
  pub sorts : List Sort
  pub declared : sorts_of (signature P) row.pred ≡ Some sorts
  pub cells : HaveElements N sorts row.cells

-- each tuple of the state is one
abbrev pub IsOfElements : Parts → Network → State → Type 0
IsOfElements P N x = (r : Pred) (cells : List ℕ) → IsTrue (x r cells) → IsStateTuple P N (record { pred = r; cells = cells })
