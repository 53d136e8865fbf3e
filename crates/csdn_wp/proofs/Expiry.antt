-- The precondition of expire events is exact, and well-sorted.
use Rattle.std.proofs.Common.{◌≡◌, ℕ, ◌↔◌, false, cond, List, [], ◌∷◌, refl, ap, sym, subst, ◌∙◌, IsTrue, IsFalse, true≢false}
use Rattle.std.specs.Prelude.{is_some}
use Rattle.std.proofs.Math.Path.{fun_ext}
use Rattle.std.proofs.lemmas.Bool.{true_from_ne_false}
use Rattle.csdn_core.specs.declared.terms.Term.TheVariants.{Var}
use Rattle.csdn_core.specs.declared.terms.Pred.{Pred}
use Rattle.csdn_core.specs.declared.terms.Pred.TheVariants.{Stored, Ft, Sent, RcvThis}
use Rattle.csdn_core.specs.declared.event.Event.TheVariants.{Expire}
use Rattle.csdn_core.specs.declared.event.Packet.TheVariants.{Nothing}
use Rattle.csdn_core.specs.declared.program.Parts.{Parts}
use Rattle.csdn_core.specs.declared.syntax.Formula.{Formula}
use Rattle.csdn_core.specs.Truth.{Assignment, truth}
use Rattle.csdn_core.specs.Network.{Network, State, structure, holds_in, same_pred}
use Rattle.csdn_core.specs.Execution.{is_rule_of, take_out_match}
use Rattle.csdn_core.specs.Run.{Step, no_values}
use Rattle.csdn_core.specs.Variables.{vars_of, BindsOutside}
use Rattle.csdn_core.specs.Sorted.{flow_sorts, packet_sorts}
use Rattle.csdn_core.specs.SortedIn.{no_scope, any_relation, no_rcv_this, IsSortedIn}
use Rattle.csdn_core.specs.Members.{IsIn}
use Rattle.csdn_core.specs.WellSorted.{signature}
use Rattle.fol_forms.specs.Replace.{drop_match, no_packet, no_row}
use Rattle.fol_forms.specs.Renumber.{renumber}
use Rattle.fol_forms.specs.Substitution.{with_relations, without_packet}
use Rattle.fol_forms.proofs.Expired.{binds_outside, truth-drop_match, truth-no_packet}
use Rattle.fol_forms.proofs.RenumberTruth.{truth-renumber}
use Rattle.csdn_wp.specs.EventPreconditions.{numbered, terms_of, first_vars, for_rules, wp_expire}
use Rattle.csdn_wp.proofs.Bounds.{bound_in-replace, bound_in-no_row, bound_in-renumbered}
use Rattle.csdn_wp.proofs.Sorting.{Extends-none, IsSortedIn-more, IsSortedIn-renumber, terms_not}
use Rattle.csdn_wp.proofs.Sorted.{IsSortedIn-no_packet, IsSortedIn-drop_match}
use Rattle.csdn_wp.proofs.Exact.{can_write_ft, fewer_is, fits_row}
use Rattle.csdn_wp.proofs.Arrival.{no_free, sentence_alike}
use Rattle.csdn_wp.proofs.Flow.{flow_scope, far_none, have_flow, have_packet, for_flow, each_flow, some_flow}

module _ (P : Parts) (q : Formula) (sorted : IsSortedIn (signature P) any_relation no_scope q) where
  abbrev quiet : Formula
  quiet = no_packet (renumber q 5)

  quiet_out : BindsOutside (vars_of (terms_of first_vars)) quiet
  quiet_out = binds_outside (vars_of (terms_of first_vars)) quiet
      (λ n i. terms_not (signature P) flow_scope n
      (far_none n (bound_in-renumbered q (λ w. w) 5 n (subst (λ ns. IsIn n ns) (bound_in-replace no_row bound_in-no_row (renumber q 5)) i))) packet_sorts (terms_of first_vars) (have_packet P))

  quiet_sorted : IsSortedIn (signature P) no_rcv_this flow_scope quiet
  quiet_sorted = IsSortedIn-no_packet (signature P) any_relation flow_scope (renumber q 5)
      (IsSortedIn-more (signature P) any_relation any_relation (λ r named. tt) no_scope flow_scope (Extends-none flow_scope) (renumber q 5) (IsSortedIn-renumber (signature P) any_relation q 5 sorted))

  pub expire_sorted : IsSortedIn (signature P) no_rcv_this no_scope (wp_expire q)
  unfolding wp_expire for_rules IsSortedIn
  expire_sorted = (
    (record { sorts = flow_sorts; declared = refl; terms = have_flow P }, refl),
    IsSortedIn-drop_match (signature P) no_rcv_this (terms_of first_vars) flow_scope quiet (have_packet P) quiet_out quiet_sorted,
  )

  module _ (N : Network) where
    nothing_at : (y : State) (r : Pred) (cells : List ℕ) → cond (same_pred r RcvThis) false (holds_in P N y Nothing r cells) ≡ holds_in P N y Nothing r cells
    nothing_at y (Stored r) cells = refl
    nothing_at y Ft cells = refl
    nothing_at y Sent cells = refl
    nothing_at y RcvThis cells = refl

    nothing_is : (y : State) → without_packet (structure P N y Nothing) ≡ structure P N y Nothing
    nothing_is y = ap (with_relations (structure P N y Nothing)) (fun_ext (λ r. fun_ext (λ cells. nothing_at y r cells)))

    module _ (x : State) where
      -- the rules of the match have ended
      abbrev gone : ℕ → ℕ → ℕ → ℕ → State
      gone s a b i = take_out_match x (s ∷ a ∷ b ∷ i ∷ [])

      after_expire : (s a b i o : ℕ) → truth (structure P N x Nothing) (drop_match quiet (terms_of first_vars)) (for_flow P N x s a b i o) ≡ truth (structure P N (gone s a b i) Nothing) q no_values
      after_expire s a b i o =
          let d : Assignment = for_flow P N x s a b i o in
          let M = structure P N (gone s a b i) Nothing in
          truth-drop_match (structure P N x Nothing) (Var (numbered 0)) (Var (numbered 1)) (Var (numbered 2)) (Var (numbered 3)) d quiet (fits_row P N no_rcv_this Ft flow_sorts 5 refl refl flow_scope no_scope quiet quiet_sorted) quiet_out
          ∙ ap (λ M. truth M quiet d) (fewer_is P N x Ft (can_write_ft P N) (is_rule_of (s ∷ a ∷ b ∷ i ∷ [])))
          ∙ truth-no_packet M d (renumber q 5)
          ∙ ap (λ M. truth M (renumber q 5) d) (nothing_is (gone s a b i))
          ∙ truth-renumber M q 5 d (λ v free. absurd (true≢false (sym free ∙ no_free P N q sorted v)))
          ∙ sentence_alike P N q sorted M d

      pub expire_kept : IsTrue (truth (structure P N x Nothing) (wp_expire q) no_values)
          → (s a b i : ℕ) (y : State) → Step P N x (Expire s a b i) y → IsTrue (truth (structure P N y Nothing) q no_values)
      unfolding wp_expire
      expire_kept h s a b i y (in_s, in_a, in_b, in_i, timed, (o, in_o, there), is) =
          rw is (sym (after_expire s a b i o) ∙ each_flow P N x (drop_match quiet (terms_of first_vars)) h s a b i o in_s in_a in_b in_i in_o there)

      pub expire_breaks : IsTrue (is_some P.timeout) → IsFalse (truth (structure P N x Nothing) (wp_expire q) no_values)
          → (s : ℕ) × (a : ℕ) × (b : ℕ) × (i : ℕ) × (y : State) × Step P N x (Expire s a b i) y × IsFalse (truth (structure P N y Nothing) q no_values)
      unfolding wp_expire
      expire_breaks timed h =
          let (s, a, b, i, o, in_s, in_a, in_b, in_i, in_o, there, wrong) = some_flow P N x (drop_match quiet (terms_of first_vars)) h in
          (s, a, b, i, gone s a b i, (in_s, in_a, in_b, in_i, timed, (o, in_o, there), refl), sym (after_expire s a b i o) ∙ wrong)

      pub expire_exact : IsTrue (is_some P.timeout) → IsTrue (truth (structure P N x Nothing) (wp_expire q) no_values)
          ↔ ((s a b i : ℕ) (y : State) → Step P N x (Expire s a b i) y → IsTrue (truth (structure P N y Nothing) q no_values))
      expire_exact timed = (
        expire_kept,
        λ h. true_from_ne_false _ (λ isnt. (let (s, a, b, i, y, step, wrong) = expire_breaks timed isnt in true≢false (sym (h s a b i y step) ∙ wrong))),
      )
