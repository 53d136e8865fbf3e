-- Refusals of bytes, and answers that are a value or a refusal.
use Rattle.std.specs.Prelude.{ℕ, ◌≡◌, ◌≢◌, ◌≤◌, ◌⊎◌, Result, Ok, Err}
use Rattle.of10_wire.specs.declared.refusal.WireRefusal.{WireRefusal}
use Rattle.of10_wire.specs.declared.refusal.WireWhy.{WireWhy}
use Rattle.of10_wire.specs.declared.refusal.WireWhy.TheVariants.{Memory}

-- the refusal at a place of the bytes
abbrev pub refusal : ℕ → WireWhy → WireRefusal
refusal at why = record { at = at; why = why }

-- a refusal of bytes, not for want of memory, that stands at most at a place
pub record IsOfBytes (most : ℕ) (e : WireRefusal) : Type 0 where
  pub near : e.at ≤ most
  pub named : e.why ≢ Memory

-- the one free answer
abbrev pub out_of_memory : WireRefusal
out_of_memory = refusal 0 Memory

-- What was found is so, and a refusal is right, unless memory ran out.
abbrev pub Answers : {X : Type 0} → Result X WireRefusal → (X → Type 0) → (WireRefusal → Type 0) → Type 0
Answers (Ok x) IsFound IsRefused = IsFound x
Answers (Err e) IsFound IsRefused = (e ≡ out_of_memory) ⊎ IsRefused e
