-- The preconditions of events in well-sorted programs.
use Rattle.std.proofs.Common.{◌≡◌, ◌∙◌, sym, true≢false, false, inl, inr, ℕ, ◌<◌, ◌↔◌, List, [], ◌∷◌, ◌++◌, refl, IsTrue, arith}
use Rattle.std.specs.List.{flat_map}
use Rattle.std.proofs.lemmas.Bool.{true_from_ne_false}
use Rattle.std.proofs.lemmas.List.Elements.{All-contains}
use Rattle.csdn_core.specs.declared.event.Event.TheVariants.{PktIn}
use Rattle.csdn_core.specs.declared.event.Packet.TheVariants.{Nothing, At}
use Rattle.csdn_core.specs.declared.program.Parts.{Parts}
use Rattle.csdn_core.specs.declared.program.Handler.{Handler}
use Rattle.csdn_core.specs.declared.syntax.Formula.{Formula}
use Rattle.csdn_core.specs.Truth.{truth}
use Rattle.csdn_core.specs.Network.{Network, State, IsNetwork, structure}
use Rattle.csdn_core.specs.Run.{Step, no_values}
use Rattle.csdn_core.specs.Sorted.{most_numbers}
use Rattle.csdn_core.specs.WellSorted.{IsWellSorted, IsHandler, signature, own_packet, handler_bound_in, invariant_bound_in, all_bound_in}
use Rattle.csdn_wp.specs.EventPreconditions.{handler_vars, wp_in}
use Rattle.csdn_wp.proofs.Scopes.{command_in}
use Rattle.csdn_wp.proofs.Arrival.{FalseOf, members_break, members_kept, AllFine, packet_scope, Fits, say, after}
use Rattle.csdn_core.proofs.Members.{distinct_left, distinct_right, distinct_pairs, in_left, in_right, in_contains}
use Rattle.csdn_core.specs.Members.{IsIn, AreDistinct}
use Rattle.csdn_core.specs.SortedIn.{no_scope, any_relation, IsSortedIn}

-- handlers whose commands are well-sorted and whose variables have numbers of their own below the bound
pub all_fine : (P : Parts) (from : ℕ) (hs : List Handler) → ((h : Handler) → IsIn h hs → IsHandler (signature P) h) →
    AreDistinct (flat_map handler_bound_in hs) → ((n : ℕ) → IsIn n (flat_map handler_bound_in hs) → n < from) → AllFine P from hs
all_fine P from [] commands distinct below = tt
all_fine P from (h ∷ hs) commands distinct below = (
  record {
    distinct = own;
    below = λ n i. below n (in_left (handler_bound_in h) (flat_map handler_bound_in hs) n i);
    command = command_in P (own_packet h) h.body (packet_scope (handler_vars h)) (commands h (inl refl)).command;
  },
  all_fine P from hs (λ g i. commands g (inr i)) (distinct_right (handler_bound_in h) (flat_map handler_bound_in hs) distinct) (λ n i. below n (in_right (handler_bound_in h) (flat_map handler_bound_in hs) n i)),
)
  where
    own : AreDistinct (handler_bound_in h)
    own = distinct_left (handler_bound_in h) (flat_map handler_bound_in hs) distinct

module _ (P : Parts) (well : IsWellSorted P) where
  in_topology : List ℕ
  in_topology = flat_map invariant_bound_in P.topology

  in_safety : List ℕ
  in_safety = flat_map invariant_bound_in P.safety

  in_trans : List ℕ
  in_trans = flat_map invariant_bound_in P.trans

  in_handlers : List ℕ
  in_handlers = flat_map handler_bound_in P.handlers

  pub handlers_fine : AllFine P most_numbers P.handlers
  unfolding in_topology in_safety in_trans in_handlers
  handlers_fine = all_fine P most_numbers P.handlers
      (λ h i. All-contains (IsHandler (signature P)) P.handlers h well.handlers (in_contains P.handlers h i))
      (distinct_right in_trans in_handlers (distinct_right in_safety (in_trans ++ in_handlers) (distinct_right in_topology (in_safety ++ (in_trans ++ in_handlers)) (distinct_pairs (all_bound_in P) well.apart))))
      (λ n i. All-contains (λ m. m < most_numbers) (all_bound_in P) n well.below
      (in_contains (all_bound_in P) n (in_right in_topology (in_safety ++ (in_trans ++ in_handlers)) n (in_right in_safety (in_trans ++ in_handlers) n (in_right in_trans in_handlers n i)))))

  pub in_kept : (N : Network) → IsNetwork P N → (q : Formula) → IsSortedIn (signature P) any_relation no_scope q → (x : State) →
      IsTrue (truth (structure P N x Nothing) (wp_in P q) no_values) → (s a b i : ℕ) (y : State) → Step P N x (PktIn s a b i) y → IsTrue (truth (structure P N y (At s a b i)) q no_values)
  unfolding wp_in Fits say after
  in_kept N network q sorted x h s a b i y (in_s, in_a, in_b, in_i, run) =
      members_kept P N q sorted network most_numbers (omega arith) x P.handlers handlers_fine [] h s a b i in_s in_a in_b in_i refl y run

  pub in_breaks : (N : Network) → IsNetwork P N → (q : Formula) → IsSortedIn (signature P) any_relation no_scope q → (x : State) →
      truth (structure P N x Nothing) (wp_in P q) no_values ≡ false → (s : ℕ) × (a : ℕ) × (b : ℕ) × (i : ℕ) × (y : State) × Step P N x (PktIn s a b i) y × (truth (structure P N y (At s a b i)) q no_values ≡ false)
  unfolding wp_in FalseOf say after
  in_breaks N network q sorted x h =
      let (s, a, b, i, in_s, in_a, in_b, in_i, left, y, run, isnt) = members_break P N q sorted network most_numbers (omega arith) x P.handlers handlers_fine [] h in
      (s, a, b, i, y, (in_s, in_a, in_b, in_i, run), isnt)

  pub in_exact : (N : Network) → IsNetwork P N → (q : Formula) → IsSortedIn (signature P) any_relation no_scope q → (x : State) →
      IsTrue (truth (structure P N x Nothing) (wp_in P q) no_values) ↔ ((s a b i : ℕ) (y : State) → Step P N x (PktIn s a b i) y → IsTrue (truth (structure P N y (At s a b i)) q no_values))
  in_exact N network q sorted x = (
    in_kept N network q sorted x,
    λ h. true_from_ne_false _ (λ isnt. (let (s, a, b, i, y, step, wrong) = in_breaks N network q sorted x isnt in true≢false (sym (h s a b i y step) ∙ wrong))),
  )
