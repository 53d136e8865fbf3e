-- What a binary search in a rising list finds.
use Rattle.std.proofs.Common.{◌≡◌, ap, sym, refl, ℕ, ◌<◌, ◌≤◌, ◌==◌, true, false, List, [], ◌∷◌, zero, suc, length, get_or, Result, Ok, Err, ◌⊎◌, inl, inr, arith}
use Rattle.std.specs.Result.{MatchResult, is_ok}
use Rattle.std.specs.Ordering.{nat_cmp}
use Rattle.std.specs.List.Sorted.{IsBinarySearchResult, IsStrictlyIncreasing}
use Rattle.std.proofs.lemmas.Bool.{cases_lt, or_right}
use Rattle.std.proofs.lemmas.List.Sorted.{searched}
use Rattle.std.proofs.lemmas.Map.Keys.{sorted_from_strictly_increasing, below_from_sorted}
use Rattle.net_structs.specs.Networks.{has}

none_there : (m : ℕ) (xs : List ℕ) → ((k : ℕ) → k < length xs → (m == get_or xs k 0) ≡ false) → has xs m ≡ false
none_there m [] none = refl
none_there m (x ∷ xs) none = rw (none 0 (omega arith), none_there m xs (λ k h. none (suc k) (omega (arith, h)))) refl

there_at : (m : ℕ) (xs : List ℕ) (k : ℕ) → k < length xs → get_or xs k 0 ≡ m → has xs m ≡ true
there_at m [] k h is = absurd (omega (arith, h))
there_at m (x ∷ xs) zero h is = let e : (m == x) ≡ true = grind (arith, is) in rw e refl
there_at m (x ∷ xs) (suc k) h is = let tail : has xs m ≡ true = there_at m xs k (omega (arith, h)) is in or_right (m == x) (has xs m) tail

before_or_same : (i j : ℕ) → i ≤ j → (i < j) ⊎ (i ≡ j)
before_or_same i j le = grind (arith, le)

not_below : (xs : List ℕ) → IsStrictlyIncreasing xs → (i j : ℕ) → i ≤ j → j < length xs → get_or xs i 0 ≤ get_or xs j 0
not_below xs rising i j le within = elim (before_or_same i j le) [
  | inl before ↦ let less = below_from_sorted xs i j 0 (sorted_from_strictly_increasing xs rising) before within in omega (arith, less)
  | inr same ↦ let e : get_or xs i 0 ≡ get_or xs j 0 = ap (λ k. get_or xs k 0) same in omega (arith, e)
]

found : (m : ℕ) (xs : List ℕ) (r : Result ℕ ℕ) → MatchResult r (λ i. (i < length xs) × (get_or xs i 0 ≡ m)) (λ i. (i ≤ length xs) × ((k : ℕ) → k < i → get_or xs k 0 < m) × ((k : ℕ) → i ≤ k → k < length xs → m < get_or xs k 0)) → is_ok r ≡ has xs m
found m xs (Ok i) at = sym (there_at m xs i at.0 at.1)
found m xs (Err i) at = sym (none_there m xs (λ k h. elim (cases_lt k i) [
  | inl before ↦ let less = at.1 k before in grind (arith, less)
  | inr from ↦ let more = at.2 k from h in grind (arith, more)
]))

-- a list is searched for an element that it has, or not
pub search_is : (m : ℕ) (xs : List ℕ) (r : Result ℕ ℕ) → IsBinarySearchResult (λ y. nat_cmp y m) xs r → IsStrictlyIncreasing xs → is_ok r ≡ has xs m
search_is m xs r at rising = found m xs r (searched xs m r at (not_below xs rising))
