-- A normal form is true where the formula is, or where it isn't.
use Rattle.std.proofs.Common.{Bool, List, [], ap, ap₂, false, not, refl, true, ℕ, ◌&&◌, ◌||◌, ◌∙◌, ◌∷◌, ◌≡◌, sym}
use Rattle.std.proofs.Math.Path.{fun_ext}
use Rattle.std.specs.List.{list_all, list_any}
use Rattle.std.proofs.Math.Bool.{not-not}
use Rattle.csdn_core.specs.declared.syntax.Formula.{Formula}
use Rattle.csdn_core.specs.declared.syntax.Formula.TheVariants as f
use Rattle.csdn_core.specs.Tree.{conjunction, disjunction, equivalence, existential, implication, negation, universal}
use Rattle.csdn_core.specs.Truth.{Assignment, Structure, same_truth, truth, with_var}
use Rattle.fol_forms.specs.Forms.{form_truth, form_of, normal_form, signed}

not_and : (a b : Bool) → (not a || not b) ≡ not (a && b)
not_and true b = refl
not_and false b = refl

not_or : (a b : Bool) → (not a && not b) ≡ not (a || b)
not_or true b = refl
not_or false b = refl

not_implied : (a b : Bool) → (a && not b) ≡ not (not a || b)
not_implied true b = refl
not_implied false b = refl

agree : (a b : Bool) → ((a && b) || (not a && not b)) ≡ same_truth a b
agree true true = refl
agree true false = refl
agree false b = refl

differ : (a b : Bool) → ((a && not b) || (not a && b)) ≡ not (same_truth a b)
differ true true = refl
differ true false = refl
differ false true = refl
differ false false = refl

-- truth values that are the same are equal
pub same_truth-is : (a b : Bool) → same_truth a b ≡ true → a ≡ b
same_truth-is true b h = sym h
same_truth-is false true h = h
same_truth-is false false h = refl

not_all : (p : ℕ → Bool) (xs : List ℕ) → list_any (λ m. not (p m)) xs ≡ not (list_all p xs)
not_all p [] = refl
not_all p (x ∷ xs) = ap (λ b. not (p x) || b) (not_all p xs) ∙ not_and (p x) (list_all p xs)

not_any : (p : ℕ → Bool) (xs : List ℕ) → list_all (λ m. not (p m)) xs ≡ not (list_any p xs)
not_any p [] = refl
not_any p (x ∷ xs) = ap (λ b. not (p x) && b) (not_any p xs) ∙ not_or (p x) (list_any p xs)

module _ (M : Structure) where
  pub truth-normal : (sign : Bool) (p : Formula) (e : Assignment) → form_truth M (normal_form sign p) e ≡ signed sign (truth M p e)
  unfolding truth normal_form
  truth-normal true f.True e = refl
  truth-normal false f.True e = refl
  truth-normal true f.False e = refl
  truth-normal false f.False e = refl
  truth-normal sign (f.Atom r ts) e = refl
  truth-normal sign (f.Same t u) e = refl
  truth-normal true (negation p) e = truth-normal false p e
  truth-normal false (negation p) e = truth-normal true p e ∙ sym (not-not (truth M p e))
  truth-normal true (conjunction p q) e = ap₂ (λ a b. a && b) (truth-normal true p e) (truth-normal true q e)
  truth-normal false (conjunction p q) e = ap₂ (λ a b. a || b) (truth-normal false p e) (truth-normal false q e) ∙ not_and _ _
  truth-normal true (disjunction p q) e = ap₂ (λ a b. a || b) (truth-normal true p e) (truth-normal true q e)
  truth-normal false (disjunction p q) e = ap₂ (λ a b. a && b) (truth-normal false p e) (truth-normal false q e) ∙ not_or _ _
  truth-normal true (implication p q) e = ap₂ (λ a b. a || b) (truth-normal false p e) (truth-normal true q e)
  truth-normal false (implication p q) e = ap₂ (λ a b. a && b) (truth-normal true p e) (truth-normal false q e) ∙ not_implied _ _
  truth-normal true (equivalence p q) e =
      ap₂ (λ a b. a || b) (ap₂ (λ a b. a && b) (truth-normal true p e) (truth-normal true q e)) (ap₂ (λ a b. a && b) (truth-normal false p e) (truth-normal false q e)) ∙ agree (truth M p e) (truth M q e)
  truth-normal false (equivalence p q) e =
      ap₂ (λ a b. a || b) (ap₂ (λ a b. a && b) (truth-normal true p e) (truth-normal false q e)) (ap₂ (λ a b. a && b) (truth-normal false p e) (truth-normal true q e)) ∙ differ (truth M p e) (truth M q e)
  truth-normal true (universal v s p) e = ap (λ test. list_all test (M.elements s)) (fun_ext (λ m. truth-normal true p (with_var e v m)))
  truth-normal false (universal v s p) e = ap (λ test. list_any test (M.elements s)) (fun_ext (λ m. truth-normal false p (with_var e v m))) ∙ not_all (λ m. truth M p (with_var e v m)) (M.elements s)
  truth-normal true (existential v s p) e = ap (λ test. list_any test (M.elements s)) (fun_ext (λ m. truth-normal true p (with_var e v m)))
  truth-normal false (existential v s p) e = ap (λ test. list_all test (M.elements s)) (fun_ext (λ m. truth-normal false p (with_var e v m))) ∙ not_any (λ m. truth M p (with_var e v m)) (M.elements s)

  pub form_truth-form_of : (p : Formula) (e : Assignment) → form_truth M (form_of p) e ≡ truth M p e
  form_truth-form_of p e = truth-normal true p e
