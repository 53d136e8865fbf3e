-- States that are lists of tuples.
use Rattle.std.specs.Prelude.{◌≡◌, ℕ, List, All, Contains, Some}
use Rattle.csdn_core.specs.declared.terms.Sort.{Sort}
use Rattle.csdn_core.specs.declared.event.Packet.{Packet}
use Rattle.csdn_core.specs.declared.program.Parts.{Parts}
use Rattle.csdn_core.specs.declared.syntax.Formula.{Formula}
use Rattle.csdn_core.specs.Truth.{Assignment, truth}
use Rattle.csdn_core.specs.Network.{Network, State, elements, structure}
use Rattle.csdn_core.specs.WellSorted.{signature}
use Rattle.csdn_core.specs.SortedIn.{Scope, any_relation, IsSortedIn}
use Rattle.net_structs.specs.declared.row.Row.{Row}
use Rattle.net_structs.specs.Rows.{held}
use Rattle.net_structs.specs.StateTuples.{IsStateTuple}

-- a list of tuples of a program's relations gives each formula that is well-sorted in a scope the truth that it has in a state,
-- under each assignment of elements to the scope's variables: so to sentences too
pub record HasTruthOfList (P : Parts) (N : Network) (x : State) : Type 0 where
  pub rows : List Row
  pub tuples : All (IsStateTuple P N) rows
  pub same : (packet : Packet) (Γ : Scope) (p : Formula) → IsSortedIn (signature P) any_relation Γ p → (e : Assignment)
      → ((v : ℕ) (s : Sort) → Γ v ≡ Some s → Contains (elements N s) (e v)) → truth (structure P N x packet) p e ≡ truth (structure P N (held rows) packet) p e
