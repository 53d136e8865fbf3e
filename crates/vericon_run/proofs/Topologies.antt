-- Networks that meet the topology invariants, and those that break one.
use Rattle.std.proofs.Common.{◌≡◌, ℕ, Bool, true, false, if◌then◌else◌, List, [], ◌∷◌, Option, Some, None, sym, ◌∙◌, ap, refl}
use Rattle.std.specs.Prelude.{IsTrue}
use Rattle.std.proofs.lemmas.List.Elements.{All-cons, All-head, All-nil, All-tail}
use Rattle.csdn_core.specs.declared.event.Packet.{Packet}
use Rattle.csdn_core.specs.declared.event.Packet.TheVariants.{Nothing}
use Rattle.csdn_core.specs.declared.program.Invariant.{Invariant}
use Rattle.csdn_core.specs.declared.program.Parts.{Parts}
use Rattle.csdn_core.specs.Truth.{truth}
use Rattle.csdn_core.specs.Network.{Network, State, IsNetwork, structure}
use Rattle.csdn_core.specs.Run.{empty_state, no_values}
use Rattle.csdn_core.specs.Holds.{AllTrue, IsTopology}
use Rattle.net_listing.specs.Falses.{first_false}
use Rattle.vericon_run.specs.Outputs.{first_broken}

head_true : (is_true : Bool) (rest : Option (List ℕ)) (name : List ℕ) → (if is_true then rest else Some name) ≡ None → (is_true ≡ true) × (rest ≡ None)
head_true true rest name is = (refl, is)
head_true false rest name is = absurd cc

module _ (P : Parts) (N : Network) (x : State) (packet : Packet) where
  abbrev Holds : Invariant → Type 0
  Holds v = IsTrue (truth (structure P N x packet) v.formula no_values)

  all_true : (vs : List Invariant) → first_false (structure P N x packet) vs ≡ None → AllTrue P N x packet vs
  all_true [] is = All-nil Holds
  all_true (v ∷ vs) is =
      let h = head_true (truth (structure P N x packet) v.formula no_values) (first_false (structure P N x packet) vs) v.name is in
      All-cons Holds v vs h.0 (all_true vs h.1)

  none_false : (vs : List Invariant) → AllTrue P N x packet vs → first_false (structure P N x packet) vs ≡ None
  none_false [] all = refl
  none_false (v ∷ vs) all =
      ap (λ (b : Bool). if b then first_false (structure P N x packet) vs else Some v.name) (All-head Holds v vs all) ∙ none_false vs (All-tail Holds v vs all)

pub meets : (P : Parts) (N : Network) → IsNetwork P N → first_broken P N ≡ None → IsTopology P N
meets P N network is = record { network = network; topology = all_true P N empty_state Nothing P.topology is }

pub breaks_one : (P : Parts) (N : Network) (name : List ℕ) → first_broken P N ≡ Some name → IsTopology P N → ⊥
breaks_one P N name is topology =
    let none : Some name ≡ None = sym is ∙ none_false P N empty_state Nothing P.topology topology.topology in absurd cc
