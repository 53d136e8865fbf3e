-- The precondition of packet-flow events is exact, and well-sorted.
use Rattle.std.proofs.Common.{◌≡◌, ℕ, ◌≤◌, ◌↔◌, Bool, [], ◌∷◌, None, Contains, refl, sym, subst, ◌∙◌, IsTrue, IsFalse, true≢false, arith}
use Rattle.std.proofs.lemmas.Bool.{true_from_ne_false}
use Rattle.fol_forms.proofs.ClosedTruth.{all_at}
use Rattle.csdn_core.specs.declared.terms.Sort.TheVariants.{Sw, Ho, Pr}
use Rattle.csdn_core.specs.declared.terms.Pred.TheVariants.{Ft, Sent}
use Rattle.csdn_core.specs.declared.event.Event.TheVariants.{PktFlow}
use Rattle.csdn_core.specs.declared.event.Packet.TheVariants.{Nothing, At}
use Rattle.csdn_core.specs.declared.program.Parts.{Parts}
use Rattle.csdn_core.specs.declared.syntax.Formula.{Formula}
use Rattle.csdn_core.specs.Truth.{Assignment, truth, with_var}
use Rattle.csdn_core.specs.Network.{Network, State, structure}
use Rattle.csdn_core.specs.Execution.{put}
use Rattle.csdn_core.specs.Run.{Step, no_values}
use Rattle.csdn_core.specs.Variables.{vars_of, BindsOutside}
use Rattle.csdn_core.specs.Sorted.{flow_sorts, packet_sorts}
use Rattle.csdn_core.specs.WellSorted.{signature}
use Rattle.fol_forms.specs.Replace.{add_row, fix_packet, is_row}
use Rattle.fol_forms.specs.Renumber.{renumber}
use Rattle.csdn_wp.specs.EventPreconditions.{numbered, terms_of, first_vars, flow_terms, for_rules, wp_flow}
use Rattle.csdn_wp.proofs.Truths.{failing, not_implied, implied}
use Rattle.csdn_wp.proofs.Bounds.{bound_in-replace, bound_in-is_row, bound_in-renumbered}
use Rattle.csdn_wp.proofs.Sorting.{Extends-none, IsSortedIn-more, IsSortedIn-renumber, terms_not}
use Rattle.csdn_wp.proofs.Sorted.{IsSortedIn-fix_packet, IsSortedIn-add_row}
use Rattle.csdn_wp.proofs.Exact.{after_put, can_write_sent}
use Rattle.csdn_wp.proofs.Arrival.{after, fixed_is}
use Rattle.csdn_core.specs.Members.{IsIn}
use Rattle.csdn_core.specs.SortedIn.{Scope, no_scope, with_sort, any_relation, no_rcv_this, HaveSortsIn, IsSortedIn}
use Rattle.csdn_core.proofs.Scopes.{still_none}
use Rattle.fol_forms.proofs.Expired.{binds_outside}

-- the variables 0 to 4
abbrev pub four_scope : Scope
four_scope = with_sort (with_sort (with_sort (with_sort no_scope (numbered 0) Sw) (numbered 1) Ho) (numbered 2) Ho) (numbered 3) Pr

abbrev pub flow_scope : Scope
flow_scope = with_sort four_scope (numbered 4) Pr

pub far_none : (n : ℕ) → 5 ≤ n → flow_scope n ≡ None
far_none n far =
    still_none four_scope (numbered 4) Pr n (λ is. omega (arith, is, far))
    (still_none (with_sort (with_sort (with_sort no_scope (numbered 0) Sw) (numbered 1) Ho) (numbered 2) Ho) (numbered 3) Pr n (λ is. omega (arith, is, far))
    (still_none (with_sort (with_sort no_scope (numbered 0) Sw) (numbered 1) Ho) (numbered 2) Ho n (λ is. omega (arith, is, far))
    (still_none (with_sort no_scope (numbered 0) Sw) (numbered 1) Ho n (λ is. omega (arith, is, far)) (still_none no_scope (numbered 0) Sw n (λ is. omega (arith, is, far)) refl))))

module _ (P : Parts) where
  pub have_flow : HaveSortsIn (signature P) flow_scope flow_sorts flow_terms
  unfolding HaveSortsIn
  have_flow = (refl, (refl, (refl, (refl, (refl, tt)))))

  pub have_packet : HaveSortsIn (signature P) flow_scope packet_sorts (terms_of first_vars)
  unfolding HaveSortsIn
  have_packet = (refl, (refl, (refl, (refl, tt))))

  -- what is said of each tuple of `ft`

  module _ (N : Network) (x : State) where
    -- the variables stand for the tuple
    abbrev pub for_flow : ℕ → ℕ → ℕ → ℕ → ℕ → Assignment
    for_flow s a b i o = with_var (with_var (with_var (with_var (with_var no_values (numbered 0) s) (numbered 1) a) (numbered 2) b) (numbered 3) i) (numbered 4) o

    module _ (p : Formula) where
      abbrev pub is_for : ℕ → ℕ → ℕ → ℕ → ℕ → Bool
      is_for s a b i o = truth (structure P N x Nothing) p (for_flow s a b i o)

      abbrev pub is_for_all : Bool
      is_for_all = truth (structure P N x Nothing) (for_rules p) no_values

      pub each_flow : IsTrue is_for_all → (s a b i o : ℕ) → Contains N.switches s → Contains N.hosts a → Contains N.hosts b → Contains N.ports i → Contains N.ports o → IsTrue (x Ft (s ∷ a ∷ b ∷ i ∷ o ∷ [])) → IsTrue (is_for s a b i o)
      unfolding truth for_rules
      each_flow h s a b i o in_s in_a in_b in_i in_o there =
          implied (x Ft (s ∷ a ∷ b ∷ i ∷ o ∷ [])) _ (all_at _ N.ports o in_o (all_at _ N.ports i in_i (all_at _ N.hosts b in_b (all_at _ N.hosts a in_a (all_at _ N.switches s in_s h))))) there

      pub some_flow : IsFalse is_for_all → (s : ℕ) × (a : ℕ) × (b : ℕ) × (i : ℕ) × (o : ℕ) × Contains N.switches s × Contains N.hosts a × Contains N.hosts b × Contains N.ports i × Contains N.ports o × IsTrue (x Ft (s ∷ a ∷ b ∷ i ∷ o ∷ [])) × IsFalse (is_for s a b i o)
      unfolding truth for_rules
      some_flow h =
          let s = failing _ N.switches h in
          let a = failing _ N.hosts s.2 in
          let b = failing _ N.hosts a.2 in
          let i = failing _ N.ports b.2 in
          let o = failing _ N.ports i.2 in
          let sides = not_implied (x Ft (s.0 ∷ a.0 ∷ b.0 ∷ i.0 ∷ o.0 ∷ [])) (is_for s.0 a.0 b.0 i.0 o.0) o.2 in
          (s.0, a.0, b.0, i.0, o.0, s.1, a.1, b.1, i.1, o.1, sides.0, sides.1)

  module _ (q : Formula) (sorted : IsSortedIn (signature P) any_relation no_scope q) where
    abbrev fixed : Formula
    fixed = fix_packet (renumber q 5) (terms_of first_vars)

    anew_out : BindsOutside (vars_of (terms_of first_vars)) (renumber q 5)
    anew_out = binds_outside (vars_of (terms_of first_vars)) (renumber q 5)
        (λ n i. terms_not (signature P) flow_scope n (far_none n (bound_in-renumbered q (λ w. w) 5 n i)) packet_sorts (terms_of first_vars) have_packet)

    fixed_out : BindsOutside (vars_of flow_terms) fixed
    fixed_out = binds_outside (vars_of flow_terms) fixed
        (λ n i. terms_not (signature P) flow_scope n
        (far_none n (bound_in-renumbered q (λ w. w) 5 n (subst (λ ns. IsIn n ns) (bound_in-replace (is_row (terms_of first_vars)) (bound_in-is_row (terms_of first_vars)) (renumber q 5)) i))) flow_sorts flow_terms have_flow)

    fixed_sorted : IsSortedIn (signature P) no_rcv_this flow_scope fixed
    fixed_sorted = IsSortedIn-fix_packet (signature P) any_relation (terms_of first_vars) flow_scope (renumber q 5) have_packet anew_out
        (IsSortedIn-more (signature P) any_relation any_relation (λ r named. tt) no_scope flow_scope (Extends-none flow_scope) (renumber q 5) (IsSortedIn-renumber (signature P) any_relation q 5 sorted))

    pub flow_sorted : IsSortedIn (signature P) no_rcv_this no_scope (wp_flow q)
    unfolding wp_flow for_rules IsSortedIn
    flow_sorted = (
      (record { sorts = flow_sorts; declared = refl; terms = have_flow }, refl),
      IsSortedIn-add_row (signature P) no_rcv_this Sent flow_sorts flow_terms refl flow_scope fixed have_flow fixed_out fixed_sorted,
    )

    module _ (N : Network) (x : State) where
      after_flow : (s a b i o : ℕ) → truth (structure P N x Nothing) (add_row fixed Sent flow_terms) (for_flow N x s a b i o) ≡ after P N q sorted (put x Sent (s ∷ a ∷ b ∷ i ∷ o ∷ [])) s a b i
      after_flow s a b i o =
          let d : Assignment = for_flow N x s a b i o in
          after_put P N no_rcv_this flow_scope fixed fixed_sorted d x Sent flow_sorts flow_terms (can_write_sent P N) refl refl fixed_out
          ∙ fixed_is P N q sorted 5 (put x Sent (s ∷ a ∷ b ∷ i ∷ o ∷ [])) (terms_of first_vars) d s a b i flow_scope have_packet anew_out refl

      pub flow_kept : IsTrue (truth (structure P N x Nothing) (wp_flow q) no_values)
          → (s a b i o : ℕ) (y : State) → Step P N x (PktFlow s a b i o) y → IsTrue (truth (structure P N y (At s a b i)) q no_values)
      unfolding wp_flow after
      flow_kept h s a b i o y (in_s, in_a, in_b, in_i, in_o, there, is) =
          rw is (sym (after_flow s a b i o) ∙ each_flow N x (add_row fixed Sent flow_terms) h s a b i o in_s in_a in_b in_i in_o there)

      pub flow_breaks : IsFalse (truth (structure P N x Nothing) (wp_flow q) no_values)
          → (s : ℕ) × (a : ℕ) × (b : ℕ) × (i : ℕ) × (o : ℕ) × (y : State) × Step P N x (PktFlow s a b i o) y × IsFalse (truth (structure P N y (At s a b i)) q no_values)
      unfolding wp_flow after
      flow_breaks h =
          let (s, a, b, i, o, in_s, in_a, in_b, in_i, in_o, there, wrong) = some_flow N x (add_row fixed Sent flow_terms) h in
          (s, a, b, i, o, put x Sent (s ∷ a ∷ b ∷ i ∷ o ∷ []), (in_s, in_a, in_b, in_i, in_o, there, refl), sym (after_flow s a b i o) ∙ wrong)

      pub flow_exact : IsTrue (truth (structure P N x Nothing) (wp_flow q) no_values)
          ↔ ((s a b i o : ℕ) (y : State) → Step P N x (PktFlow s a b i o) y → IsTrue (truth (structure P N y (At s a b i)) q no_values))
      flow_exact = (
        flow_kept,
        λ h. true_from_ne_false _ (λ isnt. (let (s, a, b, i, o, y, step, wrong) = flow_breaks isnt in true≢false (sym (h s a b i o y step) ∙ wrong))),
      )
