-- Numbers and tests in a row.
use Rattle.std.proofs.Common.{◌≡◌, ◌≢◌, ℕ, zero, suc, ◌+◌, ◌<◌, ◌≤◌, Bool, true, false, cond, eqb, Option, Some, None, refl, sym, subst, ◌∙◌, inl, inr, arith}
use Rattle.std.specs.Prelude.{IfSome}
use Rattle.std.proofs.lemmas.Bool.{eq-eqb, cases_eq}
use Rattle.of10_wire.specs.declared.refusal.WireRefusal.{WireRefusal}
use Rattle.of10_wire.specs.declared.refusal.WireWhy.{WireWhy}
use Rattle.of10_wire.specs.declared.refusal.WireWhy.TheVariants.{Memory}
use Rattle.of10_wire.specs.Refusals.{refusal, IsOfBytes}

-- a number that isn't another
pub apart : (k m n : ℕ) → k ≡ m → k ≡ n → eqb m n ≡ false → ⊥
apart k m n e f ne = let d : eqb m n ≡ true = eq-eqb m n (sym e ∙ f) in absurd cc

-- a test that refuses nothing, and neither do those behind it
pub passes : (b : Bool) (e : WireRefusal) (rest : Option WireRefusal) → cond b (Some e) rest ≡ None → (b ≡ false) × (rest ≡ None)
passes true e rest h = absurd cc
passes false e rest h = (refl, h)

-- a refusal stands near the front, where those of the test and of those behind it do
pub near_front : (n : ℕ) (b : Bool) (e : WireRefusal) (rest : Option WireRefusal) → IsOfBytes n e → IfSome rest (IsOfBytes n) → IfSome (cond b (Some e) rest) (IsOfBytes n)
near_front n true e rest first h = first
near_front n false e rest first h = h

-- a refusal unless a test passes
pub unless-none : (b : Bool) (e : WireRefusal) → cond b None (Some e) ≡ None → b ≡ true
unless-none true e h = refl
unless-none false e h = absurd cc

pub unless-near : (n : ℕ) (b : Bool) (e : WireRefusal) → IsOfBytes n e → IfSome (cond b None (Some e)) (IsOfBytes n)
unless-near n true e h = tt
unless-near n false e h = h

-- the refusal at a place, for a reason that isn't memory
pub refusal_is : (at most : ℕ) (why : WireWhy) (e : WireRefusal) → at ≤ most → why ≢ Memory → e ≡ refusal at why → IsOfBytes most e
refusal_is at most why e le named is = subst (IsOfBytes most) (sym is) (record { near = le; named = named })

-- of n numbers from one on, each
abbrev pub Each : (ℕ → Type 0) → (from n : ℕ) → Type 0
Each P from zero = Unit {0}
Each P from (suc n) = P from × Each P (from + 1) n

each_of : (P : ℕ → Type 0) (n from k : ℕ) → Each P from n → from ≤ k → k < from + n → P k
each_of P zero from k all low high = absurd (omega (arith, low, high))
each_of P (suc n) from k all low high = elim (cases_eq k from) [
  | inl is ↦ subst P (sym is) all.0
  | inr other ↦ each_of P n (from + 1) k all.1 (omega (arith, low, other)) (omega (arith, high))
]

-- what holds of each number below n holds of the one that is below n
pub each_below : (P : ℕ → Type 0) (n : ℕ) → Each P 0 n → (k : ℕ) → k < n → P k
each_below P n all k lt = each_of P n 0 k all (omega arith) (omega (arith, lt))
