-- Looking an atom up among those that are true.
use Rattle.std.proofs.Common.{◌≡◌, ℕ, ◌<◌, ◌≤◌, false, eqb, List, length, get_or, Result, Ok, Err, sym, arith, inl, inr}
use Rattle.std.specs.Prelude.{is_ok, MatchResult}
use Rattle.std.specs.Ordering.{nat_cmp}
use Rattle.std.specs.List.Sorted.{IsBinarySearchResult, IsNonDecreasing}
use Rattle.std.proofs.lemmas.Bool.{eq-eqb, ne_eqb, cases_lt}
use Rattle.std.proofs.lemmas.List.Elements.{All-from_get_or}
use Rattle.std.proofs.lemmas.List.Folds.{list_any_at, list_any_none}
use Rattle.std.proofs.lemmas.List.Sorted.{searched}
use Rattle.clause_log.specs.Literals.{truths}

-- what `binary_search` says at numbers that rise
abbrev pub Found : List ℕ → ℕ → Result ℕ ℕ → Type 0
Found xs x r = MatchResult r (λ i. (i < length xs) × (get_or xs i 0 ≡ x)) (λ i. (i ≤ length xs) × ((k : ℕ) → k < i → get_or xs k 0 < x) × ((k : ℕ) → i ≤ k → k < length xs → x < get_or xs k 0))

by_found : (xs : List ℕ) (x : ℕ) (r : Result ℕ ℕ) → Found xs x r → is_ok r ≡ truths xs x
by_found xs x (Ok i) f = sym (list_any_at (λ t. eqb t x) xs i 0 f.0 (eq-eqb (get_or xs i 0) x f.1))
by_found xs x (Err i) f =
    sym (list_any_none (λ t. eqb t x) xs (All-from_get_or (λ t. eqb t x ≡ false) xs 0 (λ k l. ne_eqb (get_or xs k 0) x (λ e. elim (cases_lt k i) [
      | inl lt ↦ (let low = f.1 k lt in omega arith)
      | inr ge ↦ (let high = f.2 k ge l in omega arith)
    ]))))

pub searched_truth : (xs : List ℕ) (x : ℕ) (r : Result ℕ ℕ) → IsNonDecreasing xs → IsBinarySearchResult (λ y. nat_cmp y x) xs r → is_ok r ≡ truths xs x
searched_truth xs x r rising s = by_found xs x r (searched xs x r s (λ i j l h. rising i j 0 l h))
