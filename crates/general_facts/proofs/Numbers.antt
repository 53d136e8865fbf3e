-- Comparing numbers.
use Rattle.std.proofs.Common.{◌≡◌, ℕ, ◌==◌, true, refl, sym, eq-eqb, eqb-true}
use Rattle.std.specs.Cmp.{both_ways}

-- a number is equal to itself
pub self_equal : (n : ℕ) → (n == n) ≡ true
self_equal n = eq-eqb n n refl

-- equality may be turned round
pub eqb-turned : (m n : ℕ) → (m == n) ≡ (n == m)
eqb-turned m n = both_ways (m == n) (n == m) (λ h. eq-eqb n m (sym (eqb-true m n h))) (λ h. eq-eqb m n (sym (eqb-true n m h)))
