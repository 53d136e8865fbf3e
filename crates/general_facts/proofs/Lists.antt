-- Elements of lists, and tests on them.
use Rattle.std.proofs.Common.{◌≡◌, ◌-◌, ℕ, suc, zero, Bool, true, ◌||◌, List, [], ◌∷◌, ◌++◌, length, take, drop, map, Some, Contains, refl, ap, ◌∙◌, arith}
use Rattle.std.proofs.Math.Seq.{take-length}
use Rattle.std.proofs.lemmas.List.Elements.{All-contains_itself}
use Rattle.std.proofs.lemmas.List.Sums.{list_all-from_AllPass}
use Rattle.std.specs.List.{list_all, list_any, slice_get, AllPairs}

-- what stands behind the first element, as a loop over a slice takes it
pub rest_is : {X : Type 0} (x : X) (xs : List X) → take (length (x ∷ xs) - 1) (drop 1 (x ∷ xs)) ≡ xs
rest_is x xs = ap (λ n. take n xs) (let same : length (x ∷ xs) - 1 ≡ length xs = omega arith in same) ∙ take-length xs

-- an element stays at its place when others follow
pub slice_get-append : {X : Type 0} (xs ys : List X) (k : ℕ) (x : X) → slice_get xs k ≡ Some x → slice_get (xs ++ ys) k ≡ Some x
slice_get-append [] ys k x is = absurd cc
slice_get-append (y ∷ xs) ys zero x is = is
slice_get-append (y ∷ xs) ys (suc k) x is = slice_get-append xs ys k x is

-- what is in a list is in the list with one more before it
pub contains_later : {X : Type 0} (xs : List X) (first x : X) → Contains xs x → Contains (first ∷ xs) x
contains_later xs first x there = (suc there.0, omega (arith, there.1), there.2)

-- a test of what a function makes
pub list_any-map : {X Y : Type 0} (test : Y → Bool) (f : X → Y) (xs : List X) → list_any test (map f xs) ≡ list_any (λ x. test (f x)) xs
list_any-map test f [] = refl
list_any-map test f (x ∷ xs) = ap (λ b. test (f x) || b) (list_any-map test f xs)

-- a list of which each element passes
pub list_all-from : {X : Type 0} (test : X → Bool) (xs : List X) → ((x : X) → Contains xs x → test x ≡ true) → list_all test xs ≡ true
list_all-from test xs each = list_all-from_AllPass test xs (λ k d within. each _ (All-contains_itself xs k d within))

-- tests that agree on the elements
pub list_all-same : {X : Type 0} (p q : X → Bool) (xs : List X) → ((x : X) → Contains xs x → p x ≡ q x) → list_all p xs ≡ list_all q xs
list_all-same p q [] same = refl
list_all-same p q (x ∷ xs) same = rw (same x (0, omega arith, refl), list_all-same p q xs (λ y there. same y (contains_later xs x y there)))

pub list_any-same : {X : Type 0} (p q : X → Bool) (xs : List X) → ((x : X) → Contains xs x → p x ≡ q x) → list_any p xs ≡ list_any q xs
list_any-same p q [] same = refl
list_any-same p q (x ∷ xs) same = rw (same x (0, omega arith, refl), list_any-same p q xs (λ y there. same y (contains_later xs x y there)))

-- a relation of each element and each later one, without the first element
pub AllPairs-tail : {X : Type 0} (R : X → X → Type 0) (x : X) (xs : List X) → AllPairs R (x ∷ xs) → AllPairs R xs
AllPairs-tail R x xs all = λ i j d before within. all (suc i) (suc j) d (omega (arith, before)) (omega (arith, within))
