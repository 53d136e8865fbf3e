-- Induction over states of finitely many tuples is induction over all.
use Rattle.std.proofs.Common.{◌≡◌, ◌∙◌, ◌↔◌, ℕ, map, refl, sym}
use Rattle.std.proofs.lemmas.Option.{none-some}
use Rattle.csdn_core.specs.declared.event.Packet.TheVariants.{Nothing}
use Rattle.csdn_core.specs.declared.program.Parts.{Parts}
use Rattle.csdn_core.specs.declared.syntax.Formula.{Formula}
use Rattle.csdn_core.specs.Truth.{truth}
use Rattle.csdn_core.specs.Network.{Network, State, IsNetwork, structure}
use Rattle.csdn_core.specs.Run.{no_values}
use Rattle.csdn_core.specs.Holds.{IsInductive}
use Rattle.csdn_core.specs.Finite.{IsFinite}
use Rattle.csdn_core.specs.SortedIn.{no_scope}
use Rattle.csdn_core.specs.WellSorted.{IsWellSorted}
use Rattle.net_structs.specs.Rows.{tuple_of, held}
use Rattle.csdn_conditions.specs.Among.{IsInductiveFinitely}
use Rattle.csdn_conditions.specs.Closed.{IsClosed}
use Rattle.csdn_conditions.proofs.ClosedConditions.{any_event, members_closed}
use Rattle.csdn_conditions.proofs.Complete.{among_all, complete_among}
use Rattle.csdn_conditions.proofs.Inductive.{sound}
use Rattle.net_facts.specs.Listed.{HasTruthOfList}
use Rattle.net_facts.proofs.ListedStates.{listed}

module _ (P : Parts) (well : IsWellSorted P) (N : Network) (network : IsNetwork P N) (x : State) where
  its : HasTruthOfList P N x
  its = listed P N network x

  -- the state in which the listed tuples are
  finite : IsFinite (held its.rows)
  finite = record { tuples = map tuple_of its.rows; same = λ r cells. refl }

  -- a sentence has one truth in both
  same_truth : (p : Formula) → IsClosed P p → truth (structure P N x Nothing) p no_values ≡ truth (structure P N (held its.rows) Nothing) p no_values
  same_truth p closed = its.same Nothing no_scope p (any_event P well p closed) no_values (λ v s is. absurd (none-some s is))

-- where the program is inductive over finite states, each condition holds in every state
from_finite : (P : Parts) → IsWellSorted P → (n : ℕ) → IsInductiveFinitely n P → IsInductive n P
from_finite P well n inductive = sound P well n (λ i c there past N x network h.
    let closed = members_closed P well n i c there in
    let its_rows = (its P well N network x).rows in
    same_truth P well N network x c.goal closed.1
    ∙ complete_among IsFinite P well n inductive i c there past N (held its_rows) network (finite P well N network x) (sym (same_truth P well N network x c.hypothesis closed.0) ∙ h))

pub finite_induction : (P : Parts) → IsWellSorted P → (n : ℕ) → IsInductive n P ↔ IsInductiveFinitely n P
finite_induction P well n = (among_all IsFinite n P, from_finite P well n)
