-- The numbers of facts lead back to them.
use Rattle.std.proofs.Common.{Bool, List, [], ap, ap₂, arith, cond, false, inl, inr, le-ltb, lt-ltb, map, max, min, mul-le-mul_right, nat_lt, refl, subst, suc, suc-mul, sym, true, ℕ, zero, ◌*◌, ◌+◌, ◌-◌, ◌/◌, ◌<◌, ◌∙◌, ◌∷◌, ◌≡◌, ◌≤◌, ◌⊎◌}
use Rattle.std.proofs.lemmas.Bool.{cases_lt, false≢true}
use Rattle.std.proofs.lemmas.Nat.{div-mul-add, mod-mul-add}
use Rattle.std.proofs.Math.Nat.{mod-lt, mul-zero, div-lt_iff_lt-mul}
use Rattle.csdn_core.specs.Same.{same_sort}
use Rattle.csdn_core.proofs.Same.{same_sort-is, same_pred-is, same_pred-refl}
use Rattle.csdn_core.specs.declared.terms.Sort.{Sort}
use Rattle.csdn_core.specs.declared.terms.Sort.TheVariants.{Ho, Pr, Sw}
use Rattle.csdn_core.specs.declared.terms.Pred.{Pred}
use Rattle.csdn_core.specs.Network.{same_pred}
use Rattle.decision_laws.specs.Clauses.{IsNaming, IsOver, mirror}
use Rattle.decision_laws.specs.Copies.{AreBelow, Equation, Fact, Tuple}
use Rattle.decision_laws.specs.Numbers.{Block, Equations, Tuples, arguments, blocks_of, columns_of, fact_count, fact_number, numbered_fact, fact_in, fact_of, is_of, number_in, total, tuple_count, tuple_number, tuple_of}
use Rattle.decision_laws.specs.Vocabulary.{Vocabulary}
use Rattle.csdn_core.specs.Members.{IsIn}

pub tuple_number-below : (n : Sort → ℕ) (ss : List Sort) (xs : List ℕ) → AreBelow n ss xs → tuple_number n ss xs < tuple_count n ss
tuple_number-below n [] [] h = omega arith
tuple_number-below n [] (x ∷ xs) h = elim h [ ]
tuple_number-below n (s ∷ ss) [] h = elim h [ ]
tuple_number-below n (s ∷ ss) (x ∷ xs) h =
    let deep = tuple_number-below n ss xs h.1 in
    let scaled : suc (tuple_number n ss xs) * n s ≤ tuple_count n ss * n s = mul-le-mul_right (n s) (omega arith) in
    omega (arith, scaled, suc-mul (tuple_number n ss xs) (n s), h.0)

pub tuple_of-number : (n : Sort → ℕ) (ss : List Sort) (xs : List ℕ) → AreBelow n ss xs → tuple_of n ss (tuple_number n ss xs) ≡ xs
tuple_of-number n [] [] h = refl
tuple_of-number n [] (x ∷ xs) h = elim h [ ]
tuple_of-number n (s ∷ ss) [] h = elim h [ ]
tuple_of-number n (s ∷ ss) (x ∷ xs) h =
    ap₂ (λ y ys. y ∷ ys) (mod-mul-add (tuple_number n ss xs) (n s) x h.0)
    (ap (tuple_of n ss) (div-mul-add (tuple_number n ss xs) (n s) x h.0) ∙ tuple_of-number n ss xs h.1)

-- the arguments of a fact over the constants fit its block
fitting : (n : Sort → ℕ) (voc : Vocabulary) (b : Block) (f : Fact) → IsOver n voc f → is_of b f ≡ true → AreBelow n (columns_of voc b) (arguments f)
fitting n voc (Equations s) (Equation t x y) o h =
    subst (λ z. AreBelow n (z ∷ z ∷ []) (min x y ∷ max x y ∷ [])) (sym (same_sort-is s t h)) (omega (arith, o.0, o.1), (omega (arith, o.0, o.1), tt))
fitting n voc (Equations s) (Tuple rel xs) o h = absurd (false≢true h)
fitting n voc (Tuples rel) (Equation t x y) o h = absurd (false≢true h)
fitting n voc (Tuples rel) (Tuple q xs) o h = subst (λ z. AreBelow n (voc.columns z) xs) (sym (same_pred-is rel q h)) o.1

ordered : (s : Sort) (x y : ℕ) → (Equation s (min x y) (max x y) ≡ Equation s x y) ⊎ (Equation s (min x y) (max x y) ≡ Equation s y x)
ordered s x y =
    elim (cases_lt x y) [
      | inl l ↦ inl (ap₂ (λ a b. Equation s a b) (omega arith) (omega arith))
      | inr l ↦ inr (ap₂ (λ a b. Equation s a b) (omega arith) (omega arith))
    ]

made_back : (b : Block) (f : Fact) → is_of b f ≡ true → (fact_of b (arguments f) ≡ f) ⊎ (fact_of b (arguments f) ≡ mirror f)
made_back (Equations s) (Equation t x y) h =
    let e = same_sort-is s t h in
    elim (ordered s x y) [
      | inl q ↦ inl (q ∙ ap (λ z. Equation z x y) e)
      | inr q ↦ inr (q ∙ ap (λ z. Equation z y x) e)
    ]
made_back (Equations s) (Tuple rel xs) h = absurd (false≢true h)
made_back (Tuples rel) (Equation t x y) h = absurd (false≢true h)
made_back (Tuples rel) (Tuple q xs) h = inl (ap (λ z. Tuple z xs) (same_pred-is rel q h))

-- some block of the list has the fact
abbrev pub HasBlock : List Block → Fact → Type 0
HasBlock [] f = ⊥
HasBlock (b ∷ bs) f = (is_of b f ≡ true) ⊎ HasBlock bs f

below_step : (c : Bool) (k m r t : ℕ) → (c ≡ true → k < m) → (c ≡ false → r < t) → cond c k (m + r) < m + t
below_step true k m r t f g = (let l : k < m = f refl in omega arith)
below_step false k m r t f g = (let l : r < t = g refl in omega arith)

number_below : (n : Sort → ℕ) (voc : Vocabulary) (bs : List Block) (f : Fact) → IsOver n voc f → HasBlock bs f → number_in n voc bs f < total n voc bs
number_below n voc [] f o c = elim c [ ]
number_below n voc (b ∷ bs) f o c =
    below_step (is_of b f) (tuple_number n (columns_of voc b) (arguments f)) (tuple_count n (columns_of voc b)) (number_in n voc bs f) (total n voc bs)
    (λ e. tuple_number-below n (columns_of voc b) (arguments f) (fitting n voc b f o e))
    (λ e. number_below n voc bs f o (elim c [ inl t ↦ absurd (false≢true (sym e ∙ t)) | inr r ↦ r ]))

back_step : (P : Fact → Type 0) (c : Bool) (k m r : ℕ) (f g : ℕ → Fact) → (c ≡ true → k < m) → (c ≡ true → P (f k)) → (c ≡ false → P (g r)) → P (cond (nat_lt (cond c k (m + r)) m) (f (cond c k (m + r))) (g (cond c k (m + r) - m)))
back_step P true k m r f g l h i = subst (λ z. P (cond z (f k) (g (k - m)))) (sym (lt-ltb k m (l refl))) (h refl)
back_step P false k m r f g l h i =
    let e : m + r - m ≡ r = omega arith in
    subst (λ z. P (cond z (f (m + r)) (g (m + r - m)))) (sym (le-ltb (m + r) m (omega arith))) (subst (λ z. P (g z)) (sym e) (i refl))

number_back : (n : Sort → ℕ) (voc : Vocabulary) (bs : List Block) (f : Fact) → IsOver n voc f → HasBlock bs f → (fact_in n voc bs (number_in n voc bs f) ≡ f) ⊎ (fact_in n voc bs (number_in n voc bs f) ≡ mirror f)
number_back n voc [] f o c = elim c [ ]
number_back n voc (b ∷ bs) f o c =
    let P : Fact → Type 0 = λ g. (g ≡ f) ⊎ (g ≡ mirror f) in
    back_step P (is_of b f) (tuple_number n (columns_of voc b) (arguments f)) (tuple_count n (columns_of voc b)) (number_in n voc bs f) (λ k. fact_of b (tuple_of n (columns_of voc b) k)) (fact_in n voc bs)
    (λ e. tuple_number-below n (columns_of voc b) (arguments f) (fitting n voc b f o e))
    (λ e. subst P (ap (fact_of b) (sym (tuple_of-number n (columns_of voc b) (arguments f) (fitting n voc b f o e)))) (made_back b f e))
    (λ e. number_back n voc bs f o (elim c [ inl t ↦ absurd (false≢true (sym e ∙ t)) | inr r ↦ r ]))

tuples_cover : (rels : List Pred) (rel : Pred) (xs : List ℕ) → IsIn rel rels → HasBlock (map (λ r. Tuples r) rels) (Tuple rel xs)
tuples_cover [] rel xs i = elim i [ ]
tuples_cover (r ∷ rs) rel xs i = elim i [ inl e ↦ inl ((let q : r ≡ rel = sym e in ap (same_pred r) (sym q) ∙ same_pred-refl r)) | inr t ↦ inr (tuples_cover rs rel xs t) ]

has_block : (n : Sort → ℕ) (voc : Vocabulary) (f : Fact) → IsOver n voc f → HasBlock (blocks_of voc) f
has_block n voc (Tuple rel xs) o = inr (inr (inr (tuples_cover voc.relations rel xs o.0)))
has_block n voc (Equation Sw a b) o = inl refl
has_block n voc (Equation Ho a b) o = inr (inl refl)
has_block n voc (Equation Pr a b) o = inr (inr (inl refl))

-- an equation and its mirror
turned_block : (n : Sort → ℕ) (voc : Vocabulary) (c : Block) (cs : List Block) (s : Sort) (a b : ℕ) → arguments (Equation s a b) ≡ arguments (Equation s b a) → number_in n voc cs (Equation s a b) ≡ number_in n voc cs (Equation s b a) → number_in n voc (c ∷ cs) (Equation s a b) ≡ number_in n voc (c ∷ cs) (Equation s b a)
turned_block n voc (Equations t) cs s a b e f = ap₂ (λ x y. cond (same_sort t s) (tuple_number n (t ∷ t ∷ []) x) (tuple_count n (t ∷ t ∷ []) + y)) e f
turned_block n voc (Tuples rel) cs s a b e f = ap (λ y. tuple_count n (voc.columns rel) + y) f

turned_in : (n : Sort → ℕ) (voc : Vocabulary) (bs : List Block) (s : Sort) (a b : ℕ) → number_in n voc bs (Equation s a b) ≡ number_in n voc bs (Equation s b a)
turned_in n voc [] s a b = refl
turned_in n voc (c ∷ cs) s a b =
    let low : min a b ≡ min b a = omega arith in
    let high : max a b ≡ max b a = omega arith in
    turned_block n voc c cs s a b (ap₂ (λ x y. x ∷ y ∷ []) low high) (turned_in n voc cs s a b)

-- the numbers that need no table, from 1 on
pub numbers_name : (n : Sort → ℕ) (voc : Vocabulary) → IsNaming voc n (record { num = λ f. suc (fact_number n voc f); first = suc (fact_count n voc); fact_at = λ x. numbered_fact n voc (x - 1) })
numbers_name n voc = record {
  turned = λ s a b. ap suc (turned_in n voc (blocks_of voc) s a b);
  some = λ f. omega arith;
  below = λ f o. (let l = number_below n voc (blocks_of voc) f o (has_block n voc f o) in omega (arith, l));
  back = λ f o.
      (let e : suc (fact_number n voc f) - 1 ≡ fact_number n voc f = omega arith in
      subst (λ k. (numbered_fact n voc k ≡ f) ⊎ (numbered_fact n voc k ≡ mirror f)) (sym e) (number_back n voc (blocks_of voc) f o (has_block n voc f o)));
}

-- the tuple of a number is a tuple of constants

some_left : (c m k : ℕ) → k < c * m → 0 < m
some_left c zero k h = absurd (omega (arith, h, mul-zero c))
some_left c (suc m) k h = omega arith

pub tuple_of-below : (n : Sort → ℕ) (ss : List Sort) (k : ℕ) → k < tuple_count n ss → AreBelow n ss (tuple_of n ss k)
tuple_of-below n [] k h = tt
tuple_of-below n (s ∷ ss) k h =
    let some = some_left (tuple_count n ss) (n s) k h in
    (mod-lt k some, tuple_of-below n ss (k / n s) ((div-lt_iff_lt-mul some).1 h))
