-- Sums and products of counts.
use Rattle.std.proofs.Common.{◌≡◌, ◌⊎◌, inl, inr, ℕ, zero, suc, ◌+◌, ◌*◌, ◌^◌, ◌-◌, ◌<◌, ◌≤◌, max, arith, refl, sym, subst, ◌∙◌, ap}
use Rattle.std.proofs.Math.Nat.{mul_comm, le-mul_of_pos_right, zero-mul}
use Rattle.fol_forms.specs.Limits.{capped}

pub capped-zero : 0 ≡ capped 0
unfolding capped
capped-zero = refl

pub capped-one : 1 ≡ capped 1
unfolding capped
capped-one = refl

pub capped-two : 2 ≡ capped 2
unfolding capped
capped-two = refl

pub capped-sum_and_one : (a b : ℕ) → capped (capped a + capped b + 1) ≡ capped (a + b + 1)
unfolding capped
capped-sum_and_one a b = omega arith

pub capped-and_one : (a : ℕ) → capped (capped a + 1) ≡ capped (a + 1)
unfolding capped
capped-and_one a = omega arith

pub capped-sum : (a b : ℕ) → capped (capped a + capped b) ≡ capped (a + b)
unfolding capped
capped-sum a b = omega arith

-- the second is small
pub capped-sum_left : (a b : ℕ) → capped (capped a + b) ≡ capped (a + b)
unfolding capped
capped-sum_left a b = omega arith

pub capped-max : (a b : ℕ) → max (capped a) (capped b) ≡ capped (max a b)
unfolding capped
capped-max a b = omega arith

pub within : (n : ℕ) → n ≤ 2 ^ 64 - 1 → capped n ≡ n
unfolding capped
within n h = omega arith

pub beyond : (n : ℕ) → 2 ^ 64 - 1 ≤ n → capped n ≡ 2 ^ 64 - 1
unfolding capped
beyond n h = omega arith

pub small_or_large : (n : ℕ) → (n ≤ 2 ^ 64 - 1) ⊎ (2 ^ 64 - 1 ≤ n)
small_or_large n = grind arith

grows : (m b : ℕ) → 0 < m → b ≤ m * b
grows m b some = subst (λ x. b ≤ x) (mul_comm b m) (le-mul_of_pos_right b some)

pub capped-product_right : (m b : ℕ) → capped (m * capped b) ≡ capped (m * b)
capped-product_right zero b = ap capped (zero-mul (capped b) ∙ sym (zero-mul b))
capped-product_right (suc m) b = elim (small_or_large b) [
  | inl small ↦ ap (λ x. capped (suc m * x)) (within b small)
  | inr large ↦
      let top : capped b ≡ 2 ^ 64 - 1 = beyond b large in
      let first : 2 ^ 64 - 1 ≤ suc m * capped b = subst (λ x. x ≤ suc m * capped b) top (grows (suc m) (capped b) (omega arith)) in
      let second : 2 ^ 64 - 1 ≤ suc m * b = omega (arith, large, grows (suc m) b (omega arith)) in
      beyond (suc m * capped b) first ∙ sym (beyond (suc m * b) second)
]

pub capped-product_left : (m b : ℕ) → capped (capped m * b) ≡ capped (m * b)
capped-product_left m b = ap capped (mul_comm (capped m) b) ∙ capped-product_right b m ∙ ap capped (mul_comm b m)

pub ruleset capped_sums = (capped-one, capped-two, capped-sum_and_one, capped-and_one)

-- how many constants a sort has
pub capped-constants : (k n : ℕ) → max (capped (k + capped n)) 1 ≡ capped (max 1 (k + n))
unfolding capped
capped-constants k n = omega arith

pub ruleset capped_counts = (capped-zero, capped-one, capped-sum, capped-sum_left, capped-max)

pub ruleset capped_instances = (capped-zero, capped-one, capped-sum, capped-product_right)
