-- The kinds of statistics, one after the other, and a body whose kind or length is refused.
use Rattle.std.proofs.Common.{◌≡◌, ℕ, ◌-◌, ◌≤◌, Bool, true, not, cond, leb, eqb, List, length, Option, Some, None, refl, inl, inr, ◌⊎◌, arith}
use Rattle.std.specs.Prelude.{IfSome}
use Rattle.std.proofs.lemmas.Bool.{or_cases, leb-true, eqb-true, not-false}
use Rattle.of10_wire.specs.declared.refusal.WireRefusal.{WireRefusal}
use Rattle.of10_wire.specs.declared.refusal.WireWhy.TheVariants.{BadStat}
use Rattle.of10_wire.specs.Refusals.{refusal, IsOfBytes}
use Rattle.of10_wire.specs.Layout.{number}
use Rattle.of10_wire.proofs.Tests.{passes, near_front, each_below}
use Rattle.of10_stats.specs.Kinds.{is_stats_kind}

low_or_vendor : (kind : ℕ) → is_stats_kind kind ≡ true → (kind ≤ 5) ⊎ (kind ≡ 65535)
low_or_vendor kind known = elim (or_cases (leb kind 5) (eqb kind 65535) known) [
  | inl low ↦ inl (leb-true kind 5 low)
  | inr is ↦ inr (eqb-true kind 65535 is)
]

-- what holds whichever kind it is
pub by_kind : {P : Type 0} (kind : ℕ) → is_stats_kind kind ≡ true → (kind ≡ 0 → P) → (kind ≡ 1 → P) → (kind ≡ 2 → P) → (kind ≡ 3 → P) → (kind ≡ 4 → P) → (kind ≡ 5 → P) → (kind ≡ 65535 → P) → P
by_kind {P = P} kind known desc flow aggregate table port queue vendor = elim (low_or_vendor kind known) [
  | inl low ↦ each_below (λ (k : ℕ). kind ≡ k → P) 6 (desc, (flow, (aggregate, (table, (port, (queue, tt)))))) kind (omega (arith, low)) refl
  | inr is ↦ vendor is
]

-- ---- bodies of the lengths that their kinds allow

-- why the kind at 8 or the length of the body is refused, if it is
abbrev pub body_refusal : (ℕ → ℕ → Bool) → List ℕ → Option WireRefusal
body_refusal allows bytes = cond (not (is_stats_kind (number 2 8 bytes))) (Some (refusal 8 BadStat)) (cond (not (allows (number 2 8 bytes) (length bytes - 12))) (Some (refusal 12 BadStat)) None)

pub low_refusal : (allows : ℕ → ℕ → Bool) (bytes : List ℕ) → IfSome (body_refusal allows bytes) (IsOfBytes 12)
low_refusal allows bytes =
    near_front 12 (not (is_stats_kind (number 2 8 bytes))) (refusal 8 BadStat) _ (record { near = omega arith; named = λ is. absurd cc }) (
    near_front 12 (not (allows (number 2 8 bytes) (length bytes - 12))) (refusal 12 BadStat) None (record { near = omega arith; named = λ is. absurd cc }) tt
    )

-- what bytes show whose kind and length are allowed
pub record BegunBody (allows : ℕ → ℕ → Bool) (bytes : List ℕ) : Type 0 where
  pub long : 12 ≤ length bytes
  pub known : is_stats_kind (number 2 8 bytes) ≡ true
  pub fits : allows (number 2 8 bytes) (length bytes - 12) ≡ true

pub begun : (allows : ℕ → ℕ → Bool) (bytes : List ℕ) → 12 ≤ length bytes → body_refusal allows bytes ≡ None → BegunBody allows bytes
begun allows bytes long h =
    let kind = number 2 8 bytes in
    let known = passes (not (is_stats_kind kind)) (refusal 8 BadStat) _ h in
    let fits = passes (not (allows kind (length bytes - 12))) (refusal 12 BadStat) None known.1 in
    record { long = long; known = not-false (is_stats_kind kind) known.0; fits = not-false (allows kind (length bytes - 12)) fits.0 }

pub allowed : (allows : ℕ → ℕ → Bool) (kind : ℕ) (bytes : List ℕ) → BegunBody allows bytes → number 2 8 bytes ≡ kind → allows kind (length bytes - 12) ≡ true
allowed allows kind bytes b is = rw (← is) b.fits
