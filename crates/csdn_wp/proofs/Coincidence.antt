-- Truth of a well-sorted formula looks at the relations that it names and at the variables in scope.
use Rattle.std.proofs.Common.{◌≡◌, ◌∙◌, ℕ, ◌==◌, Bool, true, false, not, ◌&&◌, ◌||◌, cond, List, [], ◌∷◌, Some, refl, ap, ap₂}
use Rattle.std.proofs.Math.Path.{fun_ext}
use Rattle.std.specs.List.{list_all, list_any}
use Rattle.csdn_core.specs.declared.terms.VarId.{VarId}
use Rattle.csdn_core.specs.declared.terms.Sort.{Sort}
use Rattle.csdn_core.specs.declared.terms.Term.{Term}
use Rattle.csdn_core.specs.declared.terms.Term.TheVariants.{Var, Const, Port}
use Rattle.csdn_core.specs.declared.terms.Pred.{Pred}
use Rattle.csdn_core.specs.declared.syntax.Formula.{Formula}
use Rattle.csdn_core.specs.declared.syntax.Formula.TheVariants as f
use Rattle.csdn_core.specs.Tree.{negation, conjunction, disjunction, implication, equivalence, universal, existential}
use Rattle.csdn_core.specs.Truth.{Structure, Assignment, truth, value, values, with_var, same_truth}
use Rattle.csdn_core.specs.Sorted.{Signature}
use Rattle.csdn_core.specs.SortedIn.{Relations, Scope, with_sort, HasSortIn, HaveSortsIn, IsSortedIn}
use Rattle.fol_forms.specs.Substitution.{with_relations}

-- both give each variable in scope the same
abbrev pub SameInScope : Scope → Assignment → Assignment → Type 0
SameInScope Γ e d = (v : ℕ) (s : Sort) → Γ v ≡ Some s → e v ≡ d v

SameInScope-more : (Γ : Scope) (e d : Assignment) (v : VarId) (s : Sort) (m : ℕ) → SameInScope Γ e d → SameInScope (with_sort Γ v s) (with_var e v m) (with_var d v m)
SameInScope-more Γ e d v s m same w t = go (w == v.0)
  where
    go : (b : Bool) → cond b (Some s) (Γ w) ≡ Some t → cond b m (e w) ≡ cond b m (d w)
    go true is = refl
    go false is = same w t is

-- No more is asked of the structure than that it has the relations' tuples, so that the terms may stand for anything.
module _ (S : Signature) (R : Relations) (M : Structure) (h : Pred → List ℕ → Bool) (alike : (r : Pred) (cells : List ℕ) → R r → M.holds r cells ≡ h r cells) where
  abbrev K : Structure
  K = with_relations M h

  value_alike : (Γ : Scope) (e d : Assignment) → SameInScope Γ e d → (s : Sort) (t : Term) → HasSortIn S Γ s t → value M e t ≡ value K d t
  value_alike Γ e d same s (Var v) has = same v.0 s has
  value_alike Γ e d same s (Const k) has = refl
  value_alike Γ e d same s (Port k) has = refl

  values_alike : (Γ : Scope) (e d : Assignment) → SameInScope Γ e d → (ss : List Sort) (ts : List Term) → HaveSortsIn S Γ ss ts → values M e ts ≡ values K d ts
  unfolding HaveSortsIn
  values_alike Γ e d same [] [] have = refl
  values_alike Γ e d same [] (t ∷ ts) have = absurd have
  values_alike Γ e d same (s ∷ ss) [] have = absurd have
  values_alike Γ e d same (s ∷ ss) (t ∷ ts) have = ap₂ (λ m ms. m ∷ ms) (value_alike Γ e d same s t have.0) (values_alike Γ e d same ss ts have.1)

  pub truth_alike : (Γ : Scope) (p : Formula) (e d : Assignment) → IsSortedIn S R Γ p → SameInScope Γ e d → truth M p e ≡ truth K p d
  unfolding truth IsSortedIn
  truth_alike Γ f.True e d sorted same = refl
  truth_alike Γ f.False e d sorted same = refl
  truth_alike Γ (f.Atom r ts) e d sorted same = alike r (values M e ts) sorted.1 ∙ ap (h r) (values_alike Γ e d same sorted.0.sorts ts sorted.0.terms)
  truth_alike Γ (f.Same t u) e d sorted same = ap₂ (λ m n. m == n) (value_alike Γ e d same sorted.0 t sorted.1) (value_alike Γ e d same sorted.0 u sorted.2)
  truth_alike Γ (negation p) e d sorted same = ap not (truth_alike Γ p e d sorted same)
  truth_alike Γ (conjunction p q) e d sorted same = ap₂ (λ a b. a && b) (truth_alike Γ p e d sorted.0 same) (truth_alike Γ q e d sorted.1 same)
  truth_alike Γ (disjunction p q) e d sorted same = ap₂ (λ a b. a || b) (truth_alike Γ p e d sorted.0 same) (truth_alike Γ q e d sorted.1 same)
  truth_alike Γ (implication p q) e d sorted same = ap₂ (λ a b. not a || b) (truth_alike Γ p e d sorted.0 same) (truth_alike Γ q e d sorted.1 same)
  truth_alike Γ (equivalence p q) e d sorted same = ap₂ same_truth (truth_alike Γ p e d sorted.0 same) (truth_alike Γ q e d sorted.1 same)
  truth_alike Γ (universal v s p) e d sorted same =
      ap (λ test. list_all test (M.elements s)) (fun_ext (λ m. truth_alike (with_sort Γ v s) p (with_var e v m) (with_var d v m) sorted (SameInScope-more Γ e d v s m same)))
  truth_alike Γ (existential v s p) e d sorted same =
      ap (λ test. list_any test (M.elements s)) (fun_ext (λ m. truth_alike (with_sort Γ v s) p (with_var e v m) (with_var d v m) sorted (SameInScope-more Γ e d v s m same)))
