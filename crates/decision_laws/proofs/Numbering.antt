-- The numbers of a fair judgement's classes.
use Rattle.std.proofs.Common.{Bool, List, None, Option, Some, [], ap, ap₂, arith, cond, eq-eqb, eqb-true, false, inl, inr, is_none, length, nat_eq, not, refl, slice_index_or, subst, suc, sym, true, zero, ℕ, ◌+◌, ◌<◌, ◌∙◌, ◌∷◌, ◌≡◌, ◌≤◌}
use Rattle.std.proofs.lemmas.Bool.{cases_eq, false≢true}
use Rattle.std.specs.List.{list_any}
use Rattle.std.specs.Cmp.{both_ways}
use Rattle.csdn_core.specs.declared.terms.Sort.{Sort}
use Rattle.csdn_core.specs.declared.terms.Sort.TheVariants.{Ho, Pr, Sw}
use Rattle.csdn_core.specs.declared.terms.Term.TheVariants.{Port}
use Rattle.decision_laws.proofs.Basics.{IsVocabulary, any_from, in_place, index_of-below, place_in}
use Rattle.decision_laws.proofs.Distinct.{enough_left, filter_distinct, length-places, member_at, no_more, places_distinct, position_in-below, position_in-one, same_place}
use Rattle.decision_laws.proofs.Lists.{filter_in, in_filter}
use Rattle.decision_laws.specs.Classes.{IsNumbering, class_number, classes_of, first_from, first_of, free_numbers, numeral_among, numeral_of, port_number, position_in, unnumbered}
use Rattle.decision_laws.specs.Copies.{Equation, Fact, IsFair, known, numeral_place}
use Rattle.decision_laws.specs.Vocabulary.{Vocabulary, places_from}
use Rattle.csdn_core.specs.Members.{AreDistinct, IsIn}

step_same : (b c : Bool) (i x y : ℕ) → b ≡ c → x ≡ y → cond b i x ≡ cond c i y
step_same b c i x y e f = ap₂ (λ z w. cond z i w) e f

first_from-same : (t u : ℕ → Bool) (i n : ℕ) → ((k : ℕ) → i ≤ k → k < i + n → t k ≡ u k) → first_from t i n ≡ first_from u i n
first_from-same t u i zero h = refl
first_from-same t u i (suc n) h =
    step_same (t i) (u i) i (first_from t (suc i) n) (first_from u (suc i) n) (h i (omega arith) (omega arith)) (first_from-same t u (suc i) n (λ k a b. h k (omega arith) (omega arith)))

step_found : (b : Bool) (t : ℕ → Bool) (i x m : ℕ) → t i ≡ b → i < m → (b ≡ false → (t x ≡ true) × (x < m)) → (t (cond b i x) ≡ true) × (cond b i x < m)
step_found true t i x m e l h = (e, l)
step_found false t i x m e l h = h refl

first_found : (t : ℕ → Bool) (i n k : ℕ) → i ≤ k → k < i + n → t k ≡ true → (t (first_from t i n) ≡ true) × (first_from t i n < i + n)
first_found t i zero k a b h = absurd (omega arith)
first_found t i (suc n) k a b h =
    step_found (t i) t i (first_from t (suc i) n) (i + suc n) refl (omega arith) (λ no.
    elim (cases_eq i k) [
      | inl e ↦ absurd (false≢true (sym no ∙ ap t e ∙ h))
      | inr ne ↦ (let w = first_found t (suc i) n k (omega arith) (omega arith) h in (w.0, omega (arith, w.1)))
    ])

alike_rows : (voc : Vocabulary) (n : Sort → ℕ) (j : Fact → Bool) → IsFair voc n j → (s : Sort) (a b c : ℕ) → a < n s → b < n s → c < n s → j (Equation s a b) ≡ true → j (Equation s c a) ≡ j (Equation s c b)
alike_rows voc n j fair s a b c la lb lc e =
    both_ways (j (Equation s c a)) (j (Equation s c b))
    (λ h. fair.chained s c a b lc la lb h e)
    (λ h. fair.chained s c b a lc lb la h (fair.turned s a b la lb e))

pub first_of-same : (voc : Vocabulary) (n : Sort → ℕ) (j : Fact → Bool) → IsFair voc n j → (s : Sort) (a b : ℕ) → a < n s → b < n s → j (Equation s a b) ≡ true → first_of voc n j s a ≡ first_of voc n j s b
first_of-same voc n j fair s a b la lb e =
    first_from-same (λ c. j (Equation s c a)) (λ c. j (Equation s c b)) 0 (n s) (λ c low high. alike_rows voc n j fair s a b c la lb (omega arith) e)

joined : (voc : Vocabulary) (n : Sort → ℕ) (j : Fact → Bool) → IsFair voc n j → (s : Sort) (c a b : ℕ) → c < n s → a < n s → b < n s → j (Equation s c a) ≡ true → j (Equation s c b) ≡ true → j (Equation s a b) ≡ true
joined voc n j fair s c a b lc la lb e f = fair.chained s a c b la lc lb (fair.turned s c a lc la e) f

first_of_joins : (voc : Vocabulary) (n : Sort → ℕ) (j : Fact → Bool) → IsFair voc n j → (s : Sort) (a b : ℕ) → a < n s → b < n s → first_of voc n j s a ≡ first_of voc n j s b → j (Equation s a b) ≡ true
first_of_joins voc n j fair s a b la lb e =
    let u = first_found (λ c. j (Equation s c a)) 0 (n s) a (omega arith) (omega arith) (fair.same s a la) in
    let v = first_found (λ c. j (Equation s c b)) 0 (n s) b (omega arith) (omega arith) (fair.same s b lb) in
    joined voc n j fair s (first_of voc n j s a) a b (omega (arith, u.1)) la lb u.0 (subst (λ z. j (Equation s z b) ≡ true) (sym e) v.0)

abbrev some_or : Option ℕ → ℕ
some_or None = 0
some_or (Some k) = k

abbrev is_there : Option ℕ → Bool
is_there None = false
is_there (Some k) = true

none_some : (m : ℕ) (o : Option ℕ) → o ≡ Some m → o ≡ None → ⊥
none_some m o e f = false≢true (sym (ap is_there f) ∙ ap is_there e)

none_step : (b : Bool) (k : ℕ) (o : Option ℕ) → cond b (Some k) o ≡ None → (b ≡ false → o ≡ None → ⊥) → ⊥
none_step true k o e f = none_some k (Some k) refl e
none_step false k o e f = f refl e

-- what is known of the numeral of a class
numeral_step : (b : Bool) (voc : Vocabulary) (j : Fact → Bool) (a k : ℕ) (ks : List ℕ) (o : Option ℕ) → j (Equation Pr (numeral_place voc k) a) ≡ b → (m : ℕ) → cond b (Some k) o ≡ Some m → (o ≡ Some m → IsIn m ks × (j (Equation Pr (numeral_place voc m) a) ≡ true)) → IsIn m (k ∷ ks) × (j (Equation Pr (numeral_place voc m) a) ≡ true)
numeral_step true voc j a k ks o e m q h =
    let same : k ≡ m = ap (λ z. some_or z) q in
    (inl (sym same), subst (λ z. j (Equation Pr (numeral_place voc z) a) ≡ true) same e)
numeral_step false voc j a k ks o e m q h = (let w = h q in (inr w.0, w.1))

module _ (voc : Vocabulary) (n : Sort → ℕ) (j : Fact → Bool) where
  numeral_is : (ks : List ℕ) (a m : ℕ) → numeral_among voc n j ks a ≡ Some m → IsIn m ks × (j (Equation Pr (numeral_place voc m) a) ≡ true)
  numeral_is [] a m e = absurd (none_some m None e refl)
  numeral_is (k ∷ ks) a m e = numeral_step (j (Equation Pr (numeral_place voc k) a)) voc j a k ks (numeral_among voc n j ks a) refl m e (numeral_is ks a m)

  numeral_same : (a b : ℕ) (ks : List ℕ) → ((k : ℕ) → IsIn k ks → j (Equation Pr (numeral_place voc k) a) ≡ j (Equation Pr (numeral_place voc k) b)) → numeral_among voc n j ks a ≡ numeral_among voc n j ks b
  numeral_same a b [] h = refl
  numeral_same a b (k ∷ ks) h = ap₂ (λ c o. cond c (Some k) o) (h k (inl refl)) (numeral_same a b ks (λ m i. h m (inr i)))

  numeral_none : (a : ℕ) (ks : List ℕ) → numeral_among voc n j ks a ≡ None → (k : ℕ) → IsIn k ks → j (Equation Pr (numeral_place voc k) a) ≡ true → ⊥
  numeral_none a [] e k i h = elim i [ ]
  numeral_none a (m ∷ ks) e k i h =
      none_step (j (Equation Pr (numeral_place voc m) a)) m (numeral_among voc n j ks a) e
      (λ c r. elim i [ inl q ↦ false≢true (sym c ∙ subst (λ z. j (Equation Pr (numeral_place voc z) a) ≡ true) q h) | inr u ↦ numeral_none a ks r k u h ])

-- what the numbers rest on
pub record IsReadable (voc : Vocabulary) (n : Sort → ℕ) (j : Fact → Bool) : Type 0 where
  pub vocabulary : IsVocabulary voc
  pub fair : IsFair voc n j
  pub few : (s : Sort) → known voc s ≤ n s

module _ (voc : Vocabulary) (n : Sort → ℕ) (j : Fact → Bool) (r : IsReadable voc n j) where
  -- the place of a numeral is one of the constants
  pub numeral_below : (k : ℕ) → IsIn k voc.numerals → numeral_place voc k < n Pr
  numeral_below k i = omega (arith, index_of-below (Port k) (voc.names Pr) (r.vocabulary.numbered k i), r.few Pr)

  pub first_of-below : (s : Sort) (a : ℕ) → a < n s → first_of voc n j s a < n s
  first_of-below s a l = omega (arith, (first_found (λ b. j (Equation s b a)) 0 (n s) a (omega arith) (omega arith) (r.fair.same s a l)).1)

  pub first_of-alike : (s : Sort) (a : ℕ) → a < n s → j (Equation s (first_of voc n j s a) a) ≡ true
  first_of-alike s a l = (first_found (λ b. j (Equation s b a)) 0 (n s) a (omega arith) (omega arith) (r.fair.same s a l)).0

  first_of-itself : (s : Sort) (a : ℕ) → a < n s → first_of voc n j s (first_of voc n j s a) ≡ first_of voc n j s a
  first_of-itself s a l = first_of-same voc n j r.fair s (first_of voc n j s a) a (first_of-below s a l) l (first_of-alike s a l)

  -- the first constant of a class stands in the list of classes
  pub first_of_in : (s : Sort) (a : ℕ) → a < n s → IsIn (first_of voc n j s a) (classes_of voc n j s)
  first_of_in s a l =
      in_filter (λ b. nat_eq (first_of voc n j s b) b) (places_from 0 (n s)) (first_of voc n j s a)
      (place_in 0 (n s) (first_of voc n j s a) (omega arith) (omega (arith, first_of-below s a l)))
      (eq-eqb (first_of voc n j s (first_of voc n j s a)) (first_of voc n j s a) (first_of-itself s a l))

  pub class_below : (s : Sort) (a : ℕ) → IsIn a (classes_of voc n j s) → a < n s
  class_below s a i = omega (arith, (in_place 0 (n s) a (filter_in (λ b. nat_eq (first_of voc n j s b) b) (places_from 0 (n s)) a i).0).1)

  -- a class stands in the list by its first constant alone
  pub class_first : (s : Sort) (a : ℕ) → IsIn a (classes_of voc n j s) → first_of voc n j s a ≡ a
  class_first s a i = eqb-true (first_of voc n j s a) a (filter_in (λ b. nat_eq (first_of voc n j s b) b) (places_from 0 (n s)) a i).1

  -- switches and hosts
  counted : (s : Sort) (a b : ℕ) → a < n s → b < n s → j (Equation s a b) ≡ nat_eq (suc (position_in (first_of voc n j s a) (classes_of voc n j s))) (suc (position_in (first_of voc n j s b) (classes_of voc n j s)))
  counted s a b la lb =
      let x = first_of voc n j s a in
      let y = first_of voc n j s b in
      let cs = classes_of voc n j s in
      both_ways (j (Equation s a b)) (nat_eq (suc (position_in x cs)) (suc (position_in y cs)))
      (λ e. eq-eqb (suc (position_in x cs)) (suc (position_in y cs)) (ap (λ z. suc (position_in z cs)) (first_of-same voc n j r.fair s a b la lb e)))
      (λ e. first_of_joins voc n j r.fair s a b la lb (position_in-one x y cs (first_of_in s a la) (first_of_in s b lb) (let q = eqb-true (suc (position_in x cs)) (suc (position_in y cs)) e in omega (arith, q))))

  -- ports
  numeral_of-same : (a b : ℕ) → a < n Pr → b < n Pr → j (Equation Pr a b) ≡ true → numeral_of voc n j a ≡ numeral_of voc n j b
  numeral_of-same a b la lb e = numeral_same voc n j a b voc.numerals (λ k i. alike_rows voc n j r.fair Pr a b (numeral_place voc k) la lb (numeral_below k i) e)

  unnumbered_in : (a : ℕ) → a < n Pr → numeral_of voc n j a ≡ None → IsIn (first_of voc n j Pr a) (unnumbered voc n j)
  unnumbered_in a l e =
      let x = first_of voc n j Pr a in
      in_filter (λ b. is_none (numeral_of voc n j b)) (classes_of voc n j Pr) x (first_of_in Pr a l)
      (ap is_none (numeral_of-same x a (first_of-below Pr a l) l (first_of-alike Pr a l) ∙ e))

  unnumbered_few : length (unnumbered voc n j) ≤ length (free_numbers voc n j)
  unnumbered_few =
      let few = no_more (unnumbered voc n j) (places_from 0 (n Pr)) (filter_distinct (λ b. is_none (numeral_of voc n j b)) (classes_of voc n j Pr) (filter_distinct (λ b. nat_eq (first_of voc n j Pr b) b) (places_from 0 (n Pr)) (places_distinct 0 (n Pr))))
      (λ x i. (filter_in (λ b. nat_eq (first_of voc n j Pr b) b) (places_from 0 (n Pr)) x (filter_in (λ b. is_none (numeral_of voc n j b)) (classes_of voc n j Pr) x i).0).0) in
      omega (arith, few, length-places 0 (n Pr), enough_left voc.numerals 1 (n Pr))

  free_below : (a : ℕ) → a < n Pr → numeral_of voc n j a ≡ None → position_in (first_of voc n j Pr a) (unnumbered voc n j) < length (free_numbers voc n j)
  free_below a l e = omega (arith, position_in-below (first_of voc n j Pr a) (unnumbered voc n j) (unnumbered_in a l e), unnumbered_few)

  free_distinct : AreDistinct (free_numbers voc n j)
  free_distinct = filter_distinct (λ k. not (list_any (λ m. nat_eq k m) voc.numerals)) (places_from 1 (length voc.numerals + n Pr)) (places_distinct 1 (length voc.numerals + n Pr))

  -- a free number is no numeral
  free_apart : (a k : ℕ) → a < n Pr → numeral_of voc n j a ≡ None → port_number voc n j None a ≡ k → IsIn k voc.numerals → ⊥
  free_apart a k l e q i =
      let free = free_numbers voc n j in
      let p = position_in (first_of voc n j Pr a) (unnumbered voc n j) in
      let here = filter_in (λ y. not (list_any (λ m. nat_eq y m) voc.numerals)) (places_from 1 (length voc.numerals + n Pr)) (slice_index_or free p 0) (member_at free p 0 (free_below a l e)) in
      let found : list_any (λ m. nat_eq (slice_index_or free p 0) m) voc.numerals ≡ true = any_from (λ m. nat_eq (slice_index_or free p 0) m) voc.numerals k i (eq-eqb (slice_index_or free p 0) k q) in
      false≢true (sym (ap not found) ∙ here.1)

  one_port : (a b : ℕ) (o u : Option ℕ) → a < n Pr → b < n Pr → numeral_of voc n j a ≡ o → numeral_of voc n j b ≡ u → port_number voc n j o a ≡ port_number voc n j u b → j (Equation Pr a b) ≡ true
  one_port a b None None la lb p q e =
      let free = free_numbers voc n j in
      let x = first_of voc n j Pr a in
      let y = first_of voc n j Pr b in
      let un = unnumbered voc n j in
      first_of_joins voc n j r.fair Pr a b la lb (position_in-one x y un (unnumbered_in a la p) (unnumbered_in b lb q) (same_place free (position_in x un) (position_in y un) free_distinct (free_below a la p) (free_below b lb q) e))
  one_port a b None (Some l) la lb p q e = absurd (free_apart a l la p e (numeral_is voc n j voc.numerals b l q).0)
  one_port a b (Some k) None la lb p q e = absurd (free_apart b k lb q (sym e) (numeral_is voc n j voc.numerals a k p).0)
  one_port a b (Some k) (Some l) la lb p q e =
      let w = numeral_is voc n j voc.numerals a k p in
      let z = numeral_is voc n j voc.numerals b l q in
      joined voc n j r.fair Pr (numeral_place voc k) a b (numeral_below k w.0) la lb w.1 (subst (λ y. j (Equation Pr (numeral_place voc y) b) ≡ true) (sym e) z.1)

  port_same : (o : Option ℕ) (a b : ℕ) → first_of voc n j Pr a ≡ first_of voc n j Pr b → port_number voc n j o a ≡ port_number voc n j o b
  port_same None a b e = ap (λ z. slice_index_or (free_numbers voc n j) (position_in z (unnumbered voc n j)) 0) e
  port_same (Some k) a b e = refl

  same_port : (a b : ℕ) → a < n Pr → b < n Pr → j (Equation Pr a b) ≡ true → class_number voc n j Pr a ≡ class_number voc n j Pr b
  same_port a b la lb e =
      let x = first_of-same voc n j r.fair Pr a b la lb e in
      ap (λ o. port_number voc n j o a) (numeral_of-same a b la lb e) ∙ port_same (numeral_of voc n j b) a b x

  class_number-classes : (s : Sort) (a b : ℕ) → a < n s → b < n s → j (Equation s a b) ≡ nat_eq (class_number voc n j s a) (class_number voc n j s b)
  class_number-classes Sw a b la lb = counted Sw a b la lb
  class_number-classes Ho a b la lb = counted Ho a b la lb
  class_number-classes Pr a b la lb =
      both_ways (j (Equation Pr a b)) (nat_eq (class_number voc n j Pr a) (class_number voc n j Pr b))
      (λ e. eq-eqb (class_number voc n j Pr a) (class_number voc n j Pr b) (same_port a b la lb e))
      (λ e. one_port a b (numeral_of voc n j a) (numeral_of voc n j b) la lb refl refl (eqb-true (class_number voc n j Pr a) (class_number voc n j Pr b) e))

  -- a numeral is the number of its class
  numeral_number : (k : ℕ) → IsIn k voc.numerals → (o : Option ℕ) → numeral_of voc n j (numeral_place voc k) ≡ o → port_number voc n j o (numeral_place voc k) ≡ k
  numeral_number k i None e = absurd (numeral_none voc n j (numeral_place voc k) voc.numerals e k i (r.fair.same Pr (numeral_place voc k) (numeral_below k i)))
  numeral_number k i (Some m) e =
      let w = numeral_is voc n j voc.numerals (numeral_place voc k) m e in
      elim (cases_eq m k) [ inl q ↦ q | inr ne ↦ absurd (false≢true (sym (r.fair.numerals m k w.0 i ne) ∙ w.1)) ]

  pub numbering_of : IsNumbering voc n j (class_number voc n j)
  numbering_of = record {
    classes = class_number-classes;
    ports = λ k i. numeral_number k i (numeral_of voc n j (numeral_place voc k)) refl;
  }

pub is_readable : (voc : Vocabulary) (n : Sort → ℕ) (j : Fact → Bool) → IsVocabulary voc → IsFair voc n j → ((s : Sort) → known voc s ≤ n s) → IsReadable voc n j
is_readable voc n j v fair few = record { vocabulary = v; fair = fair; few = few }
