-- What a loop over declared constants counts.
use Rattle.std.proofs.Common.{Bool, List, [], ap, arith, cond, false, get_or, length, take, true, ℕ, ◌+◌, ◌<◌, ◌∙◌, ◌∷◌, ◌≡◌, ◌≤◌, ◌++◌, refl, suc}
use Rattle.std.proofs.lemmas.List.{take_more}
use Rattle.csdn_core.specs.declared.terms.Sort.{Sort}
use Rattle.csdn_core.specs.declared.terms.Term.{Term}
use Rattle.csdn_core.specs.declared.terms.Term.TheVariants.{Const}
use Rattle.csdn_core.specs.declared.program.Constant.{Constant}
use Rattle.csdn_core.specs.Same.{same_sort}
use Rattle.fol_forms.specs.Constants.{constants_from, one_if}

few_step : (b : Bool) → cond b 1 0 ≤ 1
few_step true = omega arith
few_step false = omega arith

counted_step : (b : Bool) (x : Term) (xs : List Term) (n : ℕ) → length xs ≡ n → length (cond b (x ∷ xs) xs) ≡ n + cond b 1 0
counted_step true x xs n e = omega (arith, e)
counted_step false x xs n e = omega (arith, e)

counted_rest : (b : Bool) (x : Term) (xs ys : List Term) (m : ℕ) → length xs ≡ length ys + m → length (cond b (x ∷ xs) xs) ≡ length (cond b (x ∷ ys) ys) + m
counted_rest true x xs ys m e = omega (arith, e)
counted_rest false x xs ys m e = e

-- one constant more
pub counted_more : (s : Sort) (k : ℕ) (cs : List Constant) (c : Constant) → length (constants_from s k (cs ++ c ∷ [])) ≡ length (constants_from s k cs) + one_if c.sort s
counted_more s k [] c = counted_step (same_sort c.sort s) (Const (record { 0 = k })) [] 0 refl
counted_more s k (d ∷ ds) c = counted_rest (same_sort d.sort s) (Const (record { 0 = k })) (constants_from s (suc k) (ds ++ c ∷ [])) (constants_from s (suc k) ds) (one_if c.sort s) (counted_more s (suc k) ds c)

-- one constant more is looked at
pub counted_next : (s : Sort) (cs : List Constant) (i : ℕ) (d : Constant) → i < length cs → length (constants_from s 0 (take (i + 1) cs)) ≡ length (constants_from s 0 (take i cs)) + one_if (get_or cs i d).sort s
counted_next s cs i d l = ap (λ z. length (constants_from s 0 z)) (take_more cs i d l) ∙ counted_more s 0 (take i cs) (get_or cs i d)

pub one_if-few : (s t : Sort) → one_if s t ≤ 1
one_if-few s t = few_step (same_sort s t)
