-- Members of lists, and lists without repeats.
use Rattle.std.proofs.Common.{AllPairs, Contains, List, [], ap, arith, flat_map, inl, inr, map, refl, subst, suc, sym, zero, ◌++◌, ◌∷◌, ◌≡◌, ◌≢◌, ◌⊎◌}
use Rattle.csdn_core.specs.Members.{IsIn, AreDistinct}

pub one_in : {X : Type 0} (x y : X) → IsIn x (y ∷ []) → x ≡ y
one_in x y h = elim h [ inl e ↦ e | inr r ↦ elim r [ ] ]

pub in_left : {X : Type 0} (xs ys : List X) (x : X) → IsIn x xs → IsIn x (xs ++ ys)
in_left [] ys x h = elim h [ ]
in_left (z ∷ zs) ys x h = elim h [ inl e ↦ inl e | inr r ↦ inr (in_left zs ys x r) ]

pub in_right : {X : Type 0} (xs ys : List X) (x : X) → IsIn x ys → IsIn x (xs ++ ys)
in_right [] ys x h = h
in_right (z ∷ zs) ys x h = inr (in_right zs ys x h)

pub in_both : {X : Type 0} (xs ys : List X) (x : X) → IsIn x (xs ++ ys) → IsIn x xs ⊎ IsIn x ys
in_both [] ys x h = inr h
in_both (z ∷ zs) ys x h =
    elim h [ inl e ↦ inl (inl e) | inr r ↦ elim (in_both zs ys x r) [ inl a ↦ inl (inr a) | inr b ↦ inr b ] ]

pub in_map : {X Y : Type 0} (f : X → Y) (xs : List X) (x : X) → IsIn x xs → IsIn (f x) (map f xs)
in_map f [] x h = elim h [ ]
in_map f (y ∷ ys) x h = elim h [ inl e ↦ inl (ap f e) | inr r ↦ inr (in_map f ys x r) ]

pub map_in : {X Y : Type 0} (f : X → Y) (xs : List X) (y : Y) → IsIn y (map f xs) → (x : X) × IsIn x xs × (y ≡ f x)
map_in f [] y h = elim h [ ]
map_in f (x ∷ xs) y h = elim h [ inl e ↦ (x, inl refl, e) | inr r ↦ (let w = map_in f xs y r in (w.0, inr w.1, w.2)) ]

pub in_flat : {X Y : Type 0} (f : X → List Y) (xs : List X) (x : X) (y : Y) → IsIn x xs → IsIn y (f x) → IsIn y (flat_map f xs)
in_flat f [] x y h k = elim h [ ]
in_flat f (z ∷ zs) x y h k =
    elim h [ inl e ↦ in_left (f z) (flat_map f zs) y (subst (λ w. IsIn y (f w)) e k) | inr r ↦ in_right (f z) (flat_map f zs) y (in_flat f zs x y r k) ]

pub flat_in : {X Y : Type 0} (f : X → List Y) (xs : List X) (y : Y) → IsIn y (flat_map f xs) → (x : X) × IsIn x xs × IsIn y (f x)
flat_in f [] y h = elim h [ ]
flat_in f (z ∷ zs) y h =
    elim (in_both (f z) (flat_map f zs) y h) [ inl a ↦ (z, inl refl, a) | inr b ↦ (let w = flat_in f zs y b in (w.0, inr w.1, w.2)) ]

-- std's word for a member

pub contains_in : {X : Type 0} (xs : List X) (x : X) → Contains xs x → IsIn x xs
contains_in [] x (k, l, e) = absurd (omega arith)
contains_in (y ∷ ys) x (zero, l, e) = inl (sym e)
contains_in (y ∷ ys) x (suc k, l, e) = inr (contains_in ys x (k, omega arith, e))

pub in_contains : {X : Type 0} (xs : List X) (x : X) → IsIn x xs → Contains xs x
in_contains [] x i = elim i [ ]
in_contains (y ∷ ys) x i = elim i [ inl e ↦ (0, omega arith, sym e) | inr r ↦ (let w = in_contains ys x r in (suc w.0, omega (arith, w.1), w.2)) ]

-- lists without repeats

pub distinct_append : {X : Type 0} (xs ys : List X) → AreDistinct xs → AreDistinct ys → ((x : X) → IsIn x xs → IsIn x ys → ⊥) → AreDistinct (xs ++ ys)
distinct_append [] ys d e apart = e
distinct_append (x ∷ xs) ys d e apart = (
  (λ i. elim (in_both xs ys x i) [ inl here ↦ d.0 here | inr there ↦ apart x (inl refl) there ]),
  distinct_append xs ys d.1 e (λ y i k. apart y (inr i) k),
)

pub distinct_left : {X : Type 0} (xs ys : List X) → AreDistinct (xs ++ ys) → AreDistinct xs
distinct_left [] ys d = tt
distinct_left (x ∷ xs) ys d = ((λ i. d.0 (in_left xs ys x i)), distinct_left xs ys d.1)

pub distinct_right : {X : Type 0} (xs ys : List X) → AreDistinct (xs ++ ys) → AreDistinct ys
distinct_right [] ys d = d
distinct_right (x ∷ xs) ys d = distinct_right xs ys d.1

-- no member is in both parts
pub distinct_both : {X : Type 0} (xs ys : List X) (x : X) → AreDistinct (xs ++ ys) → IsIn x xs → IsIn x ys → ⊥
distinct_both [] ys x d here later = elim here [ ]
distinct_both (z ∷ zs) ys x d (inl is) later = d.0 (subst (λ m. IsIn m (zs ++ ys)) is (in_right zs ys x later))
distinct_both (z ∷ zs) ys x d (inr there) later = distinct_both zs ys x d.1 there later

pub distinct_pairs : {X : Type 0} (xs : List X) → AllPairs (λ m n. m ≢ n) xs → AreDistinct xs
distinct_pairs [] h = tt
distinct_pairs (x ∷ xs) h = (
  (λ i. (let w = in_contains xs x i in h 0 (suc w.0) x (omega arith) (omega (arith, w.1)) (sym w.2))),
  distinct_pairs xs (λ i j d l m. h (suc i) (suc j) d (omega arith) (omega arith)),
)
