-- Sets of constants, by their bits.
use Rattle.std.proofs.Common.{◌≡◌, ◌∙◌, ℕ, zero, suc, ◌-◌, ◌*◌, ◌%◌, ◌^◌, max, ◌<◌, ◌==◌, Bool, true, false, not, ◌||◌, refl, sym, ap, arith, inl, inr, nat_lt, ltb-true, eq-eqb}
use Rattle.std.specs.Int.{bit_at, w128}
use Rattle.std.specs.Int.RustNames.{bit_or}
use Rattle.std.proofs.lemmas.Bool.{cases_Bool, cases_eq, ne_eqb}
use Rattle.std.proofs.lemmas.Nat.Bits.{bit_at-lt, bit_at_ones, bit_at_or, bit_at_set_other, bit_at_set_same}

-- whether the bits have a place
abbrev pub has : ℕ → ℕ → Bool
has bits place = not (nat_lt place 128) || bit_at bits place == 1

inside_or : (place : ℕ) (b c : Bool) → (place < 128 → b ≡ c) → (not (nat_lt place 128) || b) ≡ (not (nat_lt place 128) || c)
inside_or place b c f = elim (cases_Bool (nat_lt place 128)) [
  | inl t ↦ ap (λ d. not (nat_lt place 128) || d) (f (ltb-true place 128 t))
  | inr e ↦ ap (λ d. not d || b) e ∙ sym (ap (λ d. not d || c) e)
]

or_always : (b : Bool) → (b || true) ≡ true
or_always true = refl
or_always false = refl

pub has_ones : (place : ℕ) → has (2 ^ 128 - 1) place ≡ true
has_ones place =
    inside_or place (bit_at (2 ^ 128 - 1) place == 1) true (λ l. ap (λ b. b == 1) (bit_at_ones 128 place l)) ∙ or_always (not (nat_lt place 128))

greater_bit : (x y : ℕ) → x < 2 → y < 2 → (max x y == 1) ≡ ((x == 1) || (y == 1))
greater_bit zero zero l m = refl
greater_bit zero (suc zero) l m = refl
greater_bit zero (suc (suc y)) l m = absurd (omega (arith, m))
greater_bit (suc zero) zero l m = refl
greater_bit (suc zero) (suc zero) l m = refl
greater_bit (suc zero) (suc (suc y)) l m = absurd (omega (arith, m))
greater_bit (suc (suc x)) y l m = absurd (omega (arith, l))

spread : (b c d : Bool) → (b || (c || d)) ≡ ((b || c) || (b || d))
spread true c d = refl
spread false c d = refl

pub has_or : (a b place : ℕ) → has (bit_or a b) place ≡ (has a place || has b place)
has_or a b place =
    ap (λ x. not (nat_lt place 128) || x) (ap (λ x. x == 1) (bit_at_or a b place) ∙ greater_bit (bit_at a place) (bit_at b place) (bit_at-lt a place) (bit_at-lt b place))
    ∙ spread (not (nat_lt place 128)) (bit_at a place == 1) (bit_at b place == 1)

or_last : (b c : Bool) → c ≡ true → (b || c) ≡ true
or_last b c e = ap (λ z. b || z) e ∙ or_always b

or_first : (b c : Bool) → c ≡ false → b ≡ (b || c)
or_first true c e = refl
or_first false c e = sym e

pub has_set : (bits new place : ℕ) → new < 128 → has (bit_or bits (1 * 2 ^ new % 2 ^ 128)) place ≡ (has bits place || place == new)
has_set bits new place l = elim (cases_eq place new) [
  | inl e ↦ or_last (not (nat_lt place 128)) (bit_at (bit_or bits (1 * 2 ^ new % 2 ^ 128)) place == 1) (ap (λ k. bit_at (bit_or bits (1 * 2 ^ new % 2 ^ 128)) k == 1) e ∙ ap (λ b. b == 1) (bit_at_set_same w128 bits new l))
      ∙ sym (or_last (has bits place) (place == new) (eq-eqb place new e))
  | inr ne ↦ ap (λ b. not (nat_lt place 128) || b == 1) (bit_at_set_other w128 bits new l place ne) ∙ or_first (has bits place) (place == new) (ne_eqb place new ne)
]
