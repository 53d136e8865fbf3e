-- Cases of conditions.
use Rattle.std.proofs.Common.{◌↔◌, ℕ, true, false, not, refl, ap, sym, ◌∙◌, true≢false}
use Rattle.std.proofs.lemmas.Bool.{and_from, and_parts, not-true, true_from_ne_false}
use Rattle.csdn_core.specs.declared.event.Packet.TheVariants.{Nothing}
use Rattle.csdn_core.specs.declared.program.Parts.{Parts}
use Rattle.csdn_core.specs.Truth.{truth}
use Rattle.csdn_core.specs.Network.{Network, structure}
use Rattle.csdn_core.specs.Run.{empty_state, no_values}
use Rattle.csdn_core.specs.Holds.{IsTopology}
use Rattle.csdn_core.specs.WellSorted.{IsWellSorted}
use Rattle.csdn_conditions.specs.Closed.{IsClosed}
use Rattle.csdn_conditions.specs.declared.kinds.CondKind.TheVariants.{Network as NetworkKind}
use Rattle.csdn_conditions.specs.declared.sentence.Condition.{Condition}
use Rattle.csdn_conditions.specs.Conditions.{condition, sentence}
use Rattle.csdn_core.specs.Satisfied.{HasNetwork}
use Rattle.csdn_conditions.specs.Valid.{IsValid, HasCase}
use Rattle.csdn_conditions.proofs.Inductive.{topology_true}
use Rattle.csdn_conditions.proofs.Complete.{topology_holds}
use Rattle.csdn_core.specs.SortedIn.{IsSortedIn}

pub case_sentence : (P : Parts) (c : Condition) → HasCase P c ↔ HasNetwork P (sentence c)
unfolding truth
case_sentence P c = (
  (λ (N, x, network, h, g). (N, x, network, and_from _ _ h (ap not g))),
  (λ (N, x, network, both). (
      let parts = and_parts (truth (structure P N x Nothing) c.hypothesis no_values) (not (truth (structure P N x Nothing) c.goal no_values)) both in
      (N, x, network, parts.0, not-true _ parts.1))),
)

pub case_valid : (P : Parts) (c : Condition) → IsValid P c ↔ (HasCase P c → ⊥)
case_valid P c = (
  (λ valid (N, x, network, h, g). true≢false (sym (valid N x network h) ∙ g)),
  (λ none N x network h. true_from_ne_false _ (λ g. none (N, x, network, h, g))),
)

pub case_network : (P : Parts) → IsWellSorted P → (n : ℕ) → HasCase P (condition P n NetworkKind) ↔ ((N : Network) × IsTopology P N)
unfolding truth
case_network P well n = (
  (λ (N, x, network, h, g). (N, record { network = network; topology = topology_holds P well N network x h })),
  (λ (N, is). (N, empty_state, is.network, topology_true P well N is.network is.topology empty_state, refl)),
)

pub case_closed : (P : Parts) (c : Condition) → IsClosed P c.hypothesis → IsClosed P c.goal → IsClosed P (sentence c)
unfolding IsSortedIn
case_closed P c h g = (h, g)
