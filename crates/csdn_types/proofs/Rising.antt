-- Numerals that are put into a rising list: it rises, and has exactly those.
use Rattle.std.proofs.Common.{◌≡◌, ℕ, ◌+◌, ◌<◌, ◌≤◌, zero, suc, Bool, List, [], ◌∷◌, length, get_or, Less, Equal, Greater, Ordering, nat_cmp, ap, arith, add-one}
use Rattle.std.specs.Ordering.{MatchOrdering, match_ordering}
use Rattle.std.specs.Cmp.{ranks}
use Rattle.std.specs.BTreeSet.{insert_key}
use Rattle.std.specs.List.Sorted.{IsStrictlyIncreasing}
use Rattle.csdn_types.specs.Numerals.{with_numeral, with_numerals}
use Rattle.csdn_types.proofs.Counts.{passes, times}

-- from a number on
abbrev Rises : ℕ → List ℕ → Type 0
Rises from [] = Unit {0}
Rises from (n ∷ ns) = (from ≤ n) × Rises (n + 1) ns

insert_rises : (from : ℕ) (ns : List ℕ) (k : ℕ) → from ≤ k → Rises from ns → Rises from (insert_key nat_cmp ns k)
insert_rises from [] k low rises = (low, tt)
insert_rises from (n ∷ ns) k low rises = by (nat_cmp k n) (ranks k n) (λ above. insert_rises (n + 1) ns k above rises.1)
  where
    by : (r : Ordering) → MatchOrdering r (k < n) (k ≡ n) (n < k) → (n + 1 ≤ k → Rises (n + 1) (insert_key nat_cmp ns k)) → Rises from (match_ordering r (k ∷ n ∷ ns) (n ∷ ns) (n ∷ insert_key nat_cmp ns k))
    by Less h more = (low, (omega (arith, h), rises.1))
    by Equal h more = rises
    by Greater h more = (rises.0, more (omega (arith, h)))

all_rise : (ns : List ℕ) (xs : List ℕ) → Rises 0 ns → Rises 0 (with_numerals ns xs)
all_rise ns [] rises = rises
all_rise ns (x ∷ xs) rises = all_rise (with_numeral ns x) xs (insert_rises 0 ns x (omega arith) rises)

rises_at : (from : ℕ) (ns : List ℕ) → Rises from ns → (k : ℕ) → suc k < length ns → get_or ns k 0 < get_or ns (suc k) 0
rises_at from [] rises k within = absurd (omega (arith, within))
rises_at from (n ∷ []) rises k within = absurd (omega (arith, within))
rises_at from (m ∷ n ∷ ns) rises zero within = omega (arith, rises.1.0)
rises_at from (m ∷ n ∷ ns) rises (suc k) within = rises_at (m + 1) (n ∷ ns) rises.1 k (omega (arith, within))

pub numerals_rise : (xs : List ℕ) → IsStrictlyIncreasing (with_numerals [] xs)
numerals_rise xs k within = rw add-one (rises_at 0 (with_numerals [] xs) (all_rise [] xs tt) k (omega (arith, within)))

module _ (q : ℕ → Bool) where
  record Inserted (ns : List ℕ) (k : ℕ) (made : List ℕ) : Type 0 where
    keeps : times q ns ≤ times q made
    has : passes (q k) ≤ times q made
    only : times q made ≤ times q ns + passes (q k)

  inserted : (ns : List ℕ) (k : ℕ) → Inserted ns k (insert_key nat_cmp ns k)
  unfolding times
  inserted [] k = record { keeps = omega arith; has = omega arith; only = omega arith }
  inserted (n ∷ ns) k = by (nat_cmp k n) (ranks k n) (inserted ns k)
    where
      by : (r : Ordering) → MatchOrdering r (k < n) (k ≡ n) (n < k) → Inserted ns k (insert_key nat_cmp ns k) → Inserted (n ∷ ns) k (match_ordering r (k ∷ n ∷ ns) (n ∷ ns) (n ∷ insert_key nat_cmp ns k))
      by Less h more = record { keeps = omega arith; has = omega arith; only = omega arith }
      by Equal h more = record { keeps = omega arith; has = omega (arith, ap (λ x. passes (q x)) h); only = omega arith }
      by Greater h more = record { keeps = omega (arith, more.keeps); has = omega (arith, more.has); only = omega (arith, more.only) }

  pub numerals_have : (ns xs : List ℕ) → 0 < times q ns + times q xs → 0 < times q (with_numerals ns xs)
  unfolding times
  numerals_have ns [] more = omega (arith, more)
  numerals_have ns (x ∷ xs) more = numerals_have (with_numeral ns x) xs (omega (arith, more, (inserted ns x).keeps, (inserted ns x).has))

  pub numerals_only : (ns xs : List ℕ) → times q (with_numerals ns xs) ≤ times q ns + times q xs
  unfolding times
  numerals_only ns [] = omega arith
  numerals_only ns (x ∷ xs) = omega (arith, numerals_only (with_numeral ns x) xs, (inserted ns x).only)
