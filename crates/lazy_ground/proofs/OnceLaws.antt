-- Clauses, each once.
use Rattle.std.proofs.Common.{◌≡◌, ◌∙◌, ◌⊎◌, Bool, true, false, List, [], ◌∷◌, ◌++◌, refl, sym, ap₂, cond, inl, inr, eq-eqb, eqb, eqb-true}
use Rattle.std.proofs.lemmas.Bool.{and_from, and_parts, false≢true}
use Rattle.csdn_core.specs.Members.{AreDistinct, IsIn}
use Rattle.csdn_core.proofs.Members.{in_both, in_left, one_in}
use Rattle.csdn_core.specs.Truth.{same_truth}
use Rattle.fol_forms.proofs.NormalTruth.{same_truth-is}
use Rattle.clause_log.specs.Literals.{Literal}
use Rattle.decision_laws.proofs.Basics.{any_from}
use Rattle.lazy_ground.specs.Found.{has_clause, once, put_clause, same_literal, same_literals}
use Rattle.lazy_ground.proofs.FindLaws.{not_more}

same_truth-refl : (b : Bool) → same_truth b b ≡ true
same_truth-refl true = refl
same_truth-refl false = refl

pub same_clause-refl : (c : List Literal) → same_literals c c ≡ true
same_clause-refl [] = refl
same_clause-refl (l ∷ c) =
    and_from (same_literal l l) (same_literals c c) (and_from (eqb l.atom l.atom) (same_truth l.positive l.positive) (eq-eqb l.atom l.atom refl) (same_truth-refl l.positive)) (same_clause-refl c)

there_has : (cs : List (List Literal)) (c : List Literal) → IsIn c cs → has_clause cs c ≡ true
there_has cs c i = any_from (same_literals c) cs c i (same_clause-refl c)

put_by : (cs : List (List Literal)) (c d : List Literal) (b : Bool) → IsIn d (cond b cs (cs ++ c ∷ [])) → IsIn d (cs ++ c ∷ [])
put_by cs c d true i = in_left cs (c ∷ []) d i
put_by cs c d false i = i

put_within : (cs : List (List Literal)) (c d : List Literal) → IsIn d (put_clause cs c) → IsIn d (cs ++ c ∷ [])
put_within cs c d i = put_by cs c d (has_clause cs c) i

distinct_last : {X : Type 0} (xs : List X) (x : X) → AreDistinct xs → (IsIn x xs → ⊥) → AreDistinct (xs ++ x ∷ [])
distinct_last [] x d n = ((λ i. elim i [ ]), tt)
distinct_last (y ∷ ys) x d n =
    ((λ i. elim (in_both ys (x ∷ []) y i) [ inl a ↦ d.0 a | inr b ↦ n (inl (sym (one_in y x b))) ]), distinct_last ys x d.1 (λ i. n (inr i)))

put_distinct_by : (cs : List (List Literal)) (c : List Literal) (b : Bool) → has_clause cs c ≡ b → AreDistinct cs → AreDistinct (cond b cs (cs ++ c ∷ []))
put_distinct_by cs c true e d = d
put_distinct_by cs c false e d = distinct_last cs c d (λ i. false≢true (sym e ∙ there_has cs c i))

put_some_by : (cs : List (List Literal)) (c : List Literal) (b : Bool) → has_clause cs c ≡ b → cond b cs (cs ++ c ∷ []) ≡ [] → ⊥
put_some_by [] c true e q = false≢true e
put_some_by (d ∷ cs) c true e q = absurd cc
put_some_by cs c false e q = not_more cs c [] q

pub once_distinct : (done cs : List (List Literal)) → AreDistinct done → AreDistinct (once done cs)
once_distinct done [] d = d
once_distinct done (c ∷ cs) d = once_distinct (put_clause done c) cs (put_distinct_by done c (has_clause done c) refl d)

once_in : (done cs : List (List Literal)) (d : List Literal) → IsIn d (once done cs) → IsIn d done ⊎ IsIn d cs
once_in done [] d i = inl i
once_in done (c ∷ cs) d i =
    elim (once_in (put_clause done c) cs d i) [
      | inl x ↦ elim (in_both done (c ∷ []) d (put_within done c d x)) [ inl y ↦ inl y | inr y ↦ inr (inl (one_in d c y)) ]
      | inr x ↦ inr (inr x)
    ]

pub once_within : (cs : List (List Literal)) (d : List Literal) → IsIn d (once [] cs) → IsIn d cs
once_within cs d i = elim (once_in [] cs d i) [ inl x ↦ absurd x | inr x ↦ x ]

once_some : (done cs : List (List Literal)) → (done ≡ [] → ⊥) → once done cs ≡ [] → ⊥
once_some done [] n q = n q
once_some done (c ∷ cs) n q = once_some (put_clause done c) cs (λ e. put_some_by done c (has_clause done c) refl e) q

pub once_empty : (cs : List (List Literal)) → once [] cs ≡ [] → cs ≡ []
once_empty [] q = refl
once_empty (c ∷ cs) q = absurd (once_some (put_clause [] c) cs (λ e. put_some_by [] c (has_clause [] c) refl e) q)

-- a clause that is the same as another one is it
same_literal-is : (l m : Literal) → same_literal l m ≡ true → l ≡ m
same_literal-is l m e =
    let p = and_parts (eqb l.atom m.atom) (same_truth l.positive m.positive) e in
    ap₂ (λ s x. record { positive = s; atom = x }) (same_truth-is l.positive m.positive p.1) (eqb-true l.atom m.atom p.0)

pub same_clause-is : (c d : List Literal) → same_literals c d ≡ true → c ≡ d
same_clause-is [] [] e = refl
same_clause-is [] (m ∷ ms) e = absurd (false≢true e)
same_clause-is (l ∷ ls) [] e = absurd (false≢true e)
same_clause-is (l ∷ ls) (m ∷ ms) e =
    let p = and_parts (same_literal l m) (same_literals ls ms) e in
    ap₂ (λ x y. x ∷ y) (same_literal-is l m p.0) (same_clause-is ls ms p.1)
