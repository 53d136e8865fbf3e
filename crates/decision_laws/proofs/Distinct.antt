-- Lists without repetitions.
use Rattle.std.proofs.Common.{Bool, List, [], ap, arith, cond, eq-eqb, eqb-true, false, filter, inl, inr, length, map, nat_eq, not, refl, slice_index_or, subst, suc, sym, true, zero, ℕ, ◌+◌, ◌<◌, ◌∙◌, ◌∷◌, ◌≡◌, ◌≤◌, ne_eqb, append_assoc, length-append, ap₂, ◌++◌}
use Rattle.std.proofs.lemmas.Bool.{cases_order, false≢true}
use Rattle.std.specs.List.{list_any}
use Rattle.std.proofs.lemmas.List.Filters.{length-filter_both}
use Rattle.decision_laws.proofs.Basics.{any_gives, in_place}
use Rattle.decision_laws.proofs.Lists.{filter_in}
use Rattle.decision_laws.specs.Classes.{position_in}
use Rattle.decision_laws.specs.Vocabulary.{places_from}
use Rattle.csdn_core.specs.Members.{AreDistinct, IsIn}
use Rattle.csdn_core.proofs.Members.{map_in, in_right}

pub places_distinct : (i n : ℕ) → AreDistinct (places_from i n)
places_distinct i zero = tt
places_distinct i (suc n) = ((λ h. (let w = in_place (suc i) n i h in omega (arith, w.0))), places_distinct (suc i) n)

filtered_step : {X : Type 0} (b : Bool) (x : X) (xs ys : List X) → (IsIn x xs → ⊥) → ((z : X) → IsIn z ys → IsIn z xs) → AreDistinct ys → AreDistinct (cond b (x ∷ ys) ys)
filtered_step true x xs ys n f d = ((λ i. n (f x i)), d)
filtered_step false x xs ys n f d = d

pub filter_distinct : {X : Type 0} (p : X → Bool) (xs : List X) → AreDistinct xs → AreDistinct (filter p xs)
filter_distinct p [] d = tt
filter_distinct p (x ∷ xs) d = filtered_step (p x) x xs (filter p xs) d.0 (λ z i. (filter_in p xs z i).0) (filter_distinct p xs d.1)

pub map_distinct : {X Y : Type 0} (f : X → Y) (xs : List X) → ((x y : X) → IsIn x xs → IsIn y xs → f x ≡ f y → x ≡ y) → AreDistinct xs → AreDistinct (map f xs)
map_distinct f [] h d = tt
map_distinct f (x ∷ xs) h d =
    ((λ i. (let w = map_in f xs (f x) i in d.0 (subst (λ z. IsIn z xs) (sym (h x w.0 (inl refl) (inr w.1) w.2)) w.1))), map_distinct f xs (λ y z i k. h y z (inr i) (inr k)) d.1)

-- what stands at a place is a member
pub member_at : {X : Type 0} (xs : List X) (k : ℕ) (d : X) → k < length xs → IsIn (slice_index_or xs k d) xs
member_at [] k d l = absurd (omega arith)
member_at (x ∷ xs) zero d l = inl refl
member_at (x ∷ xs) (suc k) d l = inr (member_at xs k d (omega arith))

-- at different places stand different members
pub apart_at : {X : Type 0} (xs : List X) (i k : ℕ) (d : X) → AreDistinct xs → i < k → k < length xs → slice_index_or xs i d ≡ slice_index_or xs k d → ⊥
apart_at [] i k d h l m e = absurd (omega arith)
apart_at (x ∷ xs) zero zero d h l m e = absurd (omega arith)
apart_at (x ∷ xs) zero (suc k) d h l m e = h.0 (subst (λ z. IsIn z xs) (sym e) (member_at xs k d (omega arith)))
apart_at (x ∷ xs) (suc i) zero d h l m e = absurd (omega arith)
apart_at (x ∷ xs) (suc i) (suc k) d h l m e = apart_at xs i k d h.1 (omega arith) (omega arith) e

pub same_place : (xs : List ℕ) (i k : ℕ) → AreDistinct xs → i < length xs → k < length xs → slice_index_or xs i 0 ≡ slice_index_or xs k 0 → i ≡ k
same_place xs i k h l m e =
    elim (cases_order i k) [
      | inl q ↦ q
      | inr o ↦ elim o [ inl a ↦ absurd (apart_at xs i k 0 h a m e) | inr a ↦ absurd (apart_at xs k i 0 h a l (sym e)) ]
    ]

position_below_step : (b : Bool) (x y n m : ℕ) → (b ≡ false → n < m) → cond b 0 (suc n) < suc m
position_below_step true x y n m h = omega arith
position_below_step false x y n m h = (let l : n < m = h refl in omega arith)

pub position_in-below : (x : ℕ) (xs : List ℕ) → IsIn x xs → position_in x xs < length xs
position_in-below x [] i = elim i [ ]
position_in-below x (y ∷ ys) i =
    position_below_step (nat_eq x y) x y (position_in x ys) (length ys) (λ e. elim i [ inl q ↦ absurd (false≢true (sym e ∙ eq-eqb x y q)) | inr r ↦ position_in-below x ys r ])

position_step : (b : Bool) (n : ℕ) (xs : List ℕ) (x y : ℕ) → (b ≡ true → x ≡ y) → (b ≡ false → slice_index_or xs n 0 ≡ x) → slice_index_or (y ∷ xs) (cond b 0 (suc n)) 0 ≡ x
position_step true n xs x y f g = sym (f refl)
position_step false n xs x y f g = g refl

-- a member stands at its position
pub at_position : (x : ℕ) (xs : List ℕ) → IsIn x xs → slice_index_or xs (position_in x xs) 0 ≡ x
at_position x [] i = elim i [ ]
at_position x (y ∷ ys) i =
    position_step (nat_eq x y) (position_in x ys) ys x y (eqb-true x y) (λ e. elim i [ inl q ↦ absurd (false≢true (sym e ∙ eq-eqb x y q)) | inr r ↦ at_position x ys r ])

pub position_in-one : (x y : ℕ) (xs : List ℕ) → IsIn x xs → IsIn y xs → position_in x xs ≡ position_in y xs → x ≡ y
position_in-one x y xs i k e = sym (at_position x xs i) ∙ ap (λ p. slice_index_or xs p 0) e ∙ at_position y xs k

after_step : (b : Bool) (n m : ℕ) → b ≡ false → n ≡ m → cond b 0 (suc n) ≡ suc m
after_step b n m e q = ap (λ c. cond c 0 (suc n)) e ∙ ap suc q

-- behind others a number stands after all of them
pub position_in-after : (x : ℕ) (pre rest : List ℕ) → (IsIn x pre → ⊥) → position_in x (pre ++ x ∷ rest) ≡ length pre
position_in-after x [] rest h = ap (λ c. cond c 0 (suc (position_in x rest))) (eq-eqb x x refl)
position_in-after x (y ∷ ys) rest h =
    after_step (nat_eq x y) (position_in x (ys ++ x ∷ rest)) (length ys) (ne_eqb x y (λ e. h (inl e))) (position_in-after x ys rest (λ i. h (inr i)))

not_before : (pre : List ℕ) (x : ℕ) (rest : List ℕ) → AreDistinct (pre ++ x ∷ rest) → IsIn x pre → ⊥
not_before [] x rest d i = elim i [ ]
not_before (y ∷ ys) x rest d i =
    elim i [ inl e ↦ d.0 (subst (λ z. IsIn z (ys ++ x ∷ rest)) e (in_right ys (x ∷ rest) x (inl refl))) | inr r ↦ not_before ys x rest d.1 r ]

-- numbered by their positions, from 1 on, different numbers get 1, 2, 3 ..
pub counted_off : (g : ℕ → ℕ) (pre xs : List ℕ) → AreDistinct (pre ++ xs) → ((x : ℕ) → IsIn x xs → g x ≡ suc (position_in x (pre ++ xs))) → map g xs ≡ places_from (suc (length pre)) (length xs)
counted_off g pre [] d h = refl
counted_off g pre (x ∷ xs) d h =
    let one : g x ≡ suc (length pre) = h x (inl refl) ∙ ap suc (position_in-after x pre xs (not_before pre x xs d)) in
    let same = append_assoc pre (x ∷ []) xs in
    let more : suc (length (pre ++ x ∷ [])) ≡ suc (suc (length pre)) = omega (arith, length-append pre (x ∷ [])) in
    ap₂ (λ y ys. y ∷ ys) one
    (counted_off g (pre ++ x ∷ []) xs (subst AreDistinct (sym same) d) (λ y i. h y (inr i) ∙ ap (λ z. suc (position_in y z)) (sym same)) ∙ ap (λ k. places_from k (length xs)) more)

-- the list without one member
abbrev pub without : {X : Type 0} → (ys : List X) (x : X) → IsIn x ys → List X
without {X} [] x i = []
without {X} (y ∷ ys) x i = elim i as (λ _. List X) [ inl e ↦ ys | inr r ↦ y ∷ without ys x r ]

length-without : {X : Type 0} (ys : List X) (x : X) (i : IsIn x ys) → suc (length (without ys x i)) ≡ length ys
length-without [] x i = elim i [ ]
length-without (y ∷ ys) x (inl e) = refl
length-without (y ∷ ys) x (inr r) = ap suc (length-without ys x r)

stays : {X : Type 0} (ys : List X) (x z : X) (i : IsIn x ys) → IsIn z ys → (z ≡ x → ⊥) → IsIn z (without ys x i)
stays [] x z i k n = elim i [ ]
stays (y ∷ ys) x z (inl e) k n = elim k [ inl q ↦ absurd (n (q ∙ sym e)) | inr r ↦ r ]
stays (y ∷ ys) x z (inr i) k n = elim k [ inl q ↦ inl q | inr r ↦ inr (stays ys x z i r n) ]

-- a list of different members of another is no longer than it
pub no_more : {X : Type 0} (xs ys : List X) → AreDistinct xs → ((x : X) → IsIn x xs → IsIn x ys) → length xs ≤ length ys
no_more [] ys d w = omega arith
no_more (x ∷ xs) ys d w =
    let i = w x (inl refl) in
    let rest = no_more xs (without ys x i) d.1 (λ z k. stays ys x z i (w z (inr k)) (λ q. d.0 (subst (λ a. IsIn a xs) q k))) in
    omega (arith, rest, length-without ys x i)

pub length-places : (i n : ℕ) → length (places_from i n) ≡ n
length-places i zero = refl
length-places i (suc n) = ap suc (length-places (suc i) n)

-- so many numbers from i on that are not in a list are left at least
pub enough_left : (ks : List ℕ) (i n : ℕ) → n ≤ length (filter (λ k. not (list_any (λ m. nat_eq k m) ks)) (places_from i (length ks + n)))
enough_left ks i n =
    let p : ℕ → Bool = λ k. list_any (λ m. nat_eq k m) ks in
    let xs = places_from i (length ks + n) in
    let both = length-filter_both p (λ k. not (p k)) (λ k. refl) xs in
    let few = no_more (filter p xs) ks (filter_distinct p xs (places_distinct i (length ks + n))) (λ k h. (let g = any_gives (λ m. nat_eq k m) ks (filter_in p xs k h).1 in subst (λ z. IsIn z ks) (sym (eqb-true k g.0 g.2)) g.1)) in
    omega (arith, both, few, length-places i (length ks + n))
