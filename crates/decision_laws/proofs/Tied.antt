-- Each tied clause is true where a fair judgement makes the copies true.
use Rattle.std.proofs.Common.{Bool, List, [], ap, ap₂, arith, false, inl, inr, not, refl, subst, sym, true, ℕ, ◌++◌, ◌<◌, ◌||◌, ◌∙◌, ◌∷◌, ◌≡◌}
use Rattle.std.proofs.lemmas.Bool.{and_parts, false≢true, or_cases, or_left, or_right}
use Rattle.std.specs.Cmp.{both_ways}
use Rattle.std.proofs.Math.Bool.{not-not}
use Rattle.csdn_core.specs.declared.terms.Sort.{Sort}
use Rattle.csdn_core.specs.declared.terms.Sort.TheVariants.{Pr}
use Rattle.decision_laws.proofs.Basics.{all_at, signed-same, any_from, any_gives, place_in}
use Rattle.decision_laws.specs.Clauses.{IsOver, mirror}
use Rattle.clause_log.specs.Literals.{Literal, clause_true, literal_true, negated}
use Rattle.decision_laws.specs.Copies.{AreAlike, Both, Copy, Each, Either, Equation, Fact, IsFair, Known, Leaf, Tuple, judge, numeral_place}
use Rattle.clause_log.specs.Literals.{signed}
use Rattle.decision_laws.specs.Tied.{AreDifferences, IsForm, IsLiteralOf, IsMember, IsTied, apart, chain, choice, member, replaced, same, turned, whole_false, whole_true}
use Rattle.decision_laws.specs.Vocabulary.{Vocabulary, places_from}

mirror-same : (voc : Vocabulary) (n : Sort → ℕ) (j : Fact → Bool) → IsFair voc n j → (f : Fact) → IsOver n voc f → j (mirror f) ≡ j f
mirror-same voc n j fair (Tuple rel xs) o = refl
mirror-same voc n j fair (Equation s a b) o =
    both_ways (j (Equation s b a)) (j (Equation s a b)) (λ e. fair.turned s b a o.1 o.0 e) (λ e. fair.turned s a b o.0 o.1 e)

-- a literal says what its node is judged
pub literal_judged : (voc : Vocabulary) (n : Sort → ℕ) (j : Fact → Bool) → IsFair voc n j → (whole : Copy) (name : ℕ → Copy) (v : ℕ → Bool) → ((x : ℕ) → v x ≡ judge j (name x)) → (p : Copy) (l : Literal) → IsLiteralOf n voc whole name p l → literal_true v l ≡ judge j p
literal_judged voc n j fair whole name v h (Known b) l o = elim o [ ]
literal_judged voc n j fair whole name v h (Leaf sign f) l o =
    ap₂ signed o.0 (h l.atom ∙ elim o.1.1 [ inl e ↦ ap (judge j) e | inr e ↦ ap (judge j) e ∙ mirror-same voc n j fair f o.1.0 ]) ∙ signed-same sign (j f)
literal_judged voc n j fair whole name v h (Both p q) l o = ap₂ signed o.0 (h l.atom ∙ ap (judge j) o.1)
literal_judged voc n j fair whole name v h (Either p q) l o = ap₂ signed o.0 (h l.atom ∙ ap (judge j) o.1)
literal_judged voc n j fair whole name v h (Each m c) l o = ap₂ signed o.0 (h l.atom ∙ ap (judge j) o.1)

-- where a conjunction is true, so is each member
member_judged : (j : Fact → Bool) (p q : Copy) → IsMember q p → judge j p ≡ true → judge j q ≡ true
member_judged j (Known b) q i h = elim i [ ]
member_judged j (Leaf sign f) q i h = elim i [ ]
member_judged j (Both l r) q i h =
    let w = and_parts (judge j l) (judge j r) h in
    elim i [ inl e ↦ ap (judge j) e ∙ w.0 | inr e ↦ ap (judge j) e ∙ w.1 ]
member_judged j (Either l r) q i h = elim i [ ]
member_judged j (Each n c) q i h = ap (judge j) i.2 ∙ all_at (λ k. judge j (c k)) (places_from 0 n) i.0 (place_in 0 n i.0 (omega arith) (omega (arith, i.1))) h

negated_step : (sign b : Bool) → signed (not sign) b ≡ not (signed sign b)
negated_step true b = refl
negated_step false b = sym (not-not b)

pub negated-true : (v : ℕ → Bool) (l : Literal) → literal_true v (negated l) ≡ not (literal_true v l)
negated-true v l = negated_step l.positive (v l.atom)

-- a clause with a premise: its rest is true where the premise is
premise_step : (b c d : Bool) → d ≡ not b → (b ≡ true → c ≡ true) → (d || c) ≡ true
premise_step true c d e f = ap₂ (λ x y. x || y) e (f refl)
premise_step false c d e f = ap (λ x. x || c) e

pub premise : (v : ℕ → Bool) (l : Literal) (c : List Literal) → (literal_true v l ≡ true → clause_true v c ≡ true) → clause_true v (negated l ∷ c) ≡ true
premise v l c f = premise_step (literal_true v l) (clause_true v c) (literal_true v (negated l)) (negated-true v l) f

pub one_true : (v : ℕ → Bool) (l : Literal) (c : List Literal) → literal_true v l ≡ true → clause_true v (l ∷ c) ≡ true
one_true v l c e = or_left (literal_true v l) (clause_true v c) e

-- the rest is true where all equations are
differences_true : (voc : Vocabulary) (n : Sort → ℕ) (j : Fact → Bool) → IsFair voc n j → (whole : Copy) (name : ℕ → Copy) (v : ℕ → Bool) → ((x : ℕ) → v x ≡ judge j (name x)) → (c : List Literal) (ss : List Sort) (xs ys : List ℕ) (ls : List Literal) → AreDifferences n voc whole name ss xs ys ls → (AreAlike n j ss xs ys → clause_true v c ≡ true) → clause_true v (ls ++ c) ≡ true
differences_true voc n j fair whole name v h c [] [] [] ls d f = subst (λ z. clause_true v (z ++ c) ≡ true) (sym d) (f tt)
differences_true voc n j fair whole name v h c [] [] (y ∷ ys) ls d f = elim d [ ]
differences_true voc n j fair whole name v h c [] (x ∷ xs) ys ls d f = elim d [ ]
differences_true voc n j fair whole name v h c (s ∷ ss) [] ys ls d f = elim d [ ]
differences_true voc n j fair whole name v h c (s ∷ ss) (x ∷ xs) [] ls d f = elim d [ ]
differences_true voc n j fair whole name v h c (s ∷ ss) (x ∷ xs) (y ∷ ys) ls d f =
    elim d [
      | inl e ↦ differences_true voc n j fair whole name v h c ss xs ys ls e.2 (λ k. f (e.1, subst (λ z. z < n s) e.0 e.1, subst (λ z. j (Equation s x z) ≡ true) e.0 (fair.same s x e.1), k))
      | inr e ↦ subst (λ z. clause_true v (z ++ c) ≡ true) (sym e.3)
          (premise v e.1 (e.2 ++ c) (λ t. differences_true voc n j fair whole name v h c ss xs ys e.2 e.5 (λ k. f (e.4.1.0.0, e.4.1.0.1, sym (literal_judged voc n j fair whole name v h (Leaf true (Equation s x y)) e.1 e.4) ∙ t, k))))
    ]

pub form_true : (voc : Vocabulary) (n : Sort → ℕ) (j : Fact → Bool) → IsFair voc n j → (whole : Copy) → judge j whole ≡ true → (name : ℕ → Copy) (v : ℕ → Bool) → ((x : ℕ) → v x ≡ judge j (name x)) → (c : List Literal) → IsForm n voc whole name c → clause_true v c ≡ true
form_true voc n j fair whole w name v h c (whole_true l o) = one_true v l [] (literal_judged voc n j fair whole name v h whole l o ∙ w)
form_true voc n j fair whole w name v h c (whole_false e) = absurd (false≢true (sym (ap (judge j) e) ∙ w))
form_true voc n j fair whole w name v h c (member p q x a i o k) =
    premise v x (a ∷ []) (λ t. one_true v a [] (literal_judged voc n j fair whole name v h q a k ∙ member_judged j p q i (sym (literal_judged voc n j fair whole name v h p x o) ∙ t)))
form_true voc n j fair whole w name v h c (choice p q x a b o k l) =
    premise v x (a ∷ b ∷ []) (λ t.
    elim (or_cases (judge j p) (judge j q) (sym (literal_judged voc n j fair whole name v h (Either p q) x o) ∙ t)) [
      | inl e ↦ one_true v a (b ∷ []) (literal_judged voc n j fair whole name v h p a k ∙ e)
      | inr e ↦ or_right (literal_true v a) (clause_true v (b ∷ [])) (one_true v b [] (literal_judged voc n j fair whole name v h q b l ∙ e))
    ])
form_true voc n j fair whole w name v h c (same s a x o) =
    one_true v x [] (literal_judged voc n j fair whole name v h (Leaf true (Equation s a a)) x o ∙ fair.same s a o.1.0.0)
form_true voc n j fair whole w name v h c (turned s a b x y o k) =
    premise v x (y ∷ []) (λ t. one_true v y [] (literal_judged voc n j fair whole name v h (Leaf true (Equation s b a)) y k ∙ fair.turned s a b o.1.0.0 o.1.0.1 (sym (literal_judged voc n j fair whole name v h (Leaf true (Equation s a b)) x o) ∙ t)))
form_true voc n j fair whole w name v h c (chain s a b d x y z o k l) =
    premise v x (negated y ∷ z ∷ []) (λ t. premise v y (z ∷ []) (λ u. one_true v z []
    (literal_judged voc n j fair whole name v h (Leaf true (Equation s a d)) z l
    ∙ fair.chained s a b d o.1.0.0 o.1.0.1 l.1.0.1 (sym (literal_judged voc n j fair whole name v h (Leaf true (Equation s a b)) x o) ∙ t) (sym (literal_judged voc n j fair whole name v h (Leaf true (Equation s b d)) y k) ∙ u))))
form_true voc n j fair whole w name v h c (apart k m x hk hm ne o) =
    premise v x [] (λ t. absurd (false≢true (sym (fair.numerals k m hk hm ne) ∙ (sym (literal_judged voc n j fair whole name v h (Leaf true (Equation Pr (numeral_place voc k) (numeral_place voc m))) x o) ∙ t))))
form_true voc n j fair whole w name v h c (replaced rel xs ys ls x y d o k) =
    differences_true voc n j fair whole name v h (negated x ∷ y ∷ []) (voc.columns rel) xs ys ls d (λ a.
    premise v x (y ∷ []) (λ t. one_true v y [] (literal_judged voc n j fair whole name v h (Leaf true (Tuple rel ys)) y k ∙ fair.replaced rel xs ys o.1.0.0 a (sym (literal_judged voc n j fair whole name v h (Leaf true (Tuple rel xs)) x o) ∙ t))))

pub tied_true : (voc : Vocabulary) (n : Sort → ℕ) (j : Fact → Bool) → IsFair voc n j → (whole : Copy) → judge j whole ≡ true → (name : ℕ → Copy) (v : ℕ → Bool) → ((x : ℕ) → v x ≡ judge j (name x)) → (c : List Literal) → IsTied n voc whole name c → clause_true v c ≡ true
tied_true voc n j fair whole w name v h c t =
    let g = any_gives (literal_true v) t.form (form_true voc n j fair whole w name v h t.form t.has_form) in
    any_from (literal_true v) c g.0 (t.all g.0 g.1) g.2
