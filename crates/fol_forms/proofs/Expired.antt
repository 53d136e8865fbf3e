-- Truth once the rules of a match are gone, and where there is no packet.
use Rattle.std.proofs.Common.{◌≡◌, inl, inr, ℕ, Bool, true, false, not, ◌&&◌, cond, List, [], ◌∷◌, length, refl, ap, sym, ◌∙◌, IsFalse, arith}
use Rattle.std.proofs.Math.Bool.{and-true}
use Rattle.csdn_core.specs.declared.terms.Term.{Term}
use Rattle.csdn_core.specs.declared.terms.Pred.{Pred}
use Rattle.csdn_core.specs.declared.terms.Pred.TheVariants.{Ft, RcvThis}
use Rattle.csdn_core.specs.declared.syntax.Formula.{Formula}
use Rattle.csdn_core.specs.declared.syntax.Formula.TheVariants as f
use Rattle.csdn_core.specs.Tree.{negation, conjunction, disjunction, implication, equivalence, universal, existential}
use Rattle.csdn_core.specs.Truth.{Structure, Assignment, truth, values}
use Rattle.csdn_core.specs.Network.{same_pred, same_cells}
use Rattle.csdn_core.specs.Execution.{is_rule_of}
use Rattle.csdn_core.specs.Sorted.{bound_in}
use Rattle.csdn_core.specs.SortedIn.{Scope, no_scope, with_sort}
use Rattle.csdn_core.specs.Members.{IsIn}
use Rattle.csdn_core.specs.Variables.{Variables, vars_of, BindsOutside}
use Rattle.csdn_core.proofs.Members.{in_left, in_right}
use Rattle.fol_forms.specs.Replace.{rule_of, not_match, drop_match, no_row, no_packet}
use Rattle.fol_forms.specs.Substitution.{Agrees, AllAtoms, AllFit, FitsRow, without_match, without_packet}
use Rattle.fol_forms.proofs.Replaced.{values-Agrees, AllAtoms-map, IsRight, KeepsSorts-none, truth-replace, truth-same}

module _ (M : Structure) (s a b i : Term) (e : Assignment) where
  abbrev terms : List Term
  terms = s ∷ a ∷ b ∷ i ∷ []

  abbrev without_it : Pred → List ℕ → Bool
  without_it q ds = M.holds q ds && not (same_pred q Ft && is_rule_of (values M e terms) ds)

  rule_is : (us : List Term) → length us ≡ 5 → (d : Assignment) → Agrees (vars_of terms) e d → truth M (rule_of terms us) d ≡ is_rule_of (values M e terms) (values M d us)
  rule_is (u ∷ v ∷ w ∷ j ∷ o ∷ []) five d same_vars =
      let own = u ∷ v ∷ w ∷ j ∷ [] in
      truth-same M d own terms refl ∙ ap (same_cells (values M d own)) (values-Agrees M e d terms same_vars)
  rule_is [] five d same_vars = absurd (omega arith)
  rule_is (u ∷ []) five d same_vars = absurd (omega arith)
  rule_is (u ∷ v ∷ []) five d same_vars = absurd (omega arith)
  rule_is (u ∷ v ∷ w ∷ []) five d same_vars = absurd (omega arith)
  rule_is (u ∷ v ∷ w ∷ j ∷ []) five d same_vars = absurd (omega arith)
  rule_is (u ∷ v ∷ w ∷ j ∷ o ∷ k ∷ us) five d same_vars = absurd (omega arith)

  not_match_right : (Γ : Scope) (q : Pred) (us : List Term) → FitsRow Ft 5 q us → IsRight M (not_match terms) without_it (vars_of terms) e Γ q us
  unfolding truth
  not_match_right Γ q us fits d same_vars keeps = go (same_pred q Ft) refl
    where
      go : (b : Bool) → same_pred q Ft ≡ b → truth M (not_match terms q us) d ≡ without_it q (values M d us)
      go true is = rw (is, rule_is us (fits is) d same_vars)
      go false isnt = rw isnt (sym (and-true _))

  -- once every rule of the match is out of the flow tables
  pub truth-drop_match : (p : Formula) → AllFit Ft 5 p → BindsOutside (vars_of terms) p → truth M (drop_match p terms) e ≡ truth (without_match M (values M e terms)) p e
  truth-drop_match p fits out =
      truth-replace M (not_match terms) without_it (vars_of terms) e p no_scope (AllAtoms-map (λ Γ. FitsRow Ft 5) (IsRight M (not_match terms) without_it (vars_of terms) e) not_match_right no_scope p fits) out e (λ v in_s. refl) (KeepsSorts-none M e)

-- what each atom may be, those of a formula are
AllAtoms-any : (A : Scope → Pred → List Term → Type 0) → ((Γ : Scope) (r : Pred) (us : List Term) → A Γ r us) → (Γ : Scope) (p : Formula) → AllAtoms A Γ p
unfolding AllAtoms
AllAtoms-any A any Γ f.True = tt
AllAtoms-any A any Γ f.False = tt
AllAtoms-any A any Γ (f.Atom r us) = any Γ r us
AllAtoms-any A any Γ (f.Same t u) = tt
AllAtoms-any A any Γ (negation p) = AllAtoms-any A any Γ p
AllAtoms-any A any Γ (conjunction p q) = (AllAtoms-any A any Γ p, AllAtoms-any A any Γ q)
AllAtoms-any A any Γ (disjunction p q) = (AllAtoms-any A any Γ p, AllAtoms-any A any Γ q)
AllAtoms-any A any Γ (implication p q) = (AllAtoms-any A any Γ p, AllAtoms-any A any Γ q)
AllAtoms-any A any Γ (equivalence p q) = (AllAtoms-any A any Γ p, AllAtoms-any A any Γ q)
AllAtoms-any A any Γ (universal v s p) = AllAtoms-any A any (with_sort Γ v s) p
AllAtoms-any A any Γ (existential v s p) = AllAtoms-any A any (with_sort Γ v s) p

-- a formula that binds nothing of a set
pub binds_outside : (s : Variables) (p : Formula) → ((n : ℕ) → IsIn n (bound_in p) → IsFalse (s n)) → BindsOutside s p
unfolding BindsOutside bound_in
binds_outside s f.True out = tt
binds_outside s f.False out = tt
binds_outside s (f.Atom r ts) out = tt
binds_outside s (f.Same t u) out = tt
binds_outside s (negation p) out = binds_outside s p out
binds_outside s (conjunction p q) out = (binds_outside s p (λ n i. out n (in_left (bound_in p) (bound_in q) n i)), binds_outside s q (λ n i. out n (in_right (bound_in p) (bound_in q) n i)))
binds_outside s (disjunction p q) out = (binds_outside s p (λ n i. out n (in_left (bound_in p) (bound_in q) n i)), binds_outside s q (λ n i. out n (in_right (bound_in p) (bound_in q) n i)))
binds_outside s (implication p q) out = (binds_outside s p (λ n i. out n (in_left (bound_in p) (bound_in q) n i)), binds_outside s q (λ n i. out n (in_right (bound_in p) (bound_in q) n i)))
binds_outside s (equivalence p q) out = (binds_outside s p (λ n i. out n (in_left (bound_in p) (bound_in q) n i)), binds_outside s q (λ n i. out n (in_right (bound_in p) (bound_in q) n i)))
binds_outside s (universal v sort p) out = (out v.0 (inl refl), binds_outside s p (λ n i. out n (inr i)))
binds_outside s (existential v sort p) out = (out v.0 (inl refl), binds_outside s p (λ n i. out n (inr i)))

module _ (M : Structure) where
  abbrev unpacked : Pred → List ℕ → Bool
  unpacked q ds = cond (same_pred q RcvThis) false (M.holds q ds)

  no_row_right : (e : Assignment) (Γ : Scope) (q : Pred) (us : List Term) → IsRight M no_row unpacked (λ v. false) e Γ q us
  unfolding truth
  no_row_right e Γ q us d same_vars keeps = go (same_pred q RcvThis) refl
    where
      go : (b : Bool) → same_pred q RcvThis ≡ b → truth M (no_row q us) d ≡ unpacked q (values M d us)
      go true is = rw is
      go false isnt = rw isnt

  -- when there is no packet
  pub truth-no_packet : (e : Assignment) (p : Formula) → truth M (no_packet p) e ≡ truth (without_packet M) p e
  truth-no_packet e p =
      truth-replace M no_row unpacked (λ v. false) e p no_scope (AllAtoms-any (IsRight M no_row unpacked (λ v. false) e) (no_row_right e) no_scope p) (binds_outside (λ v. false) p (λ n i. refl)) e (λ v in_s. refl) (KeepsSorts-none M e)
