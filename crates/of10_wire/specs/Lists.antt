-- Parts that tell their own lengths, one after the other.
use Rattle.std.specs.Prelude.{ℕ, ◌≡◌, ◌+◌, ◌-◌, ◌<◌, ◌≤◌, ◌⊎◌, List, length, drop, Bool, false, IsTrue}
use Rattle.std.specs.List.{flat_map}
use Rattle.of10_wire.specs.declared.refusal.WireRefusal.{WireRefusal}
use Rattle.of10_wire.specs.declared.refusal.WireWhy.{WireWhy}
use Rattle.of10_wire.specs.Refusals.{refusal}
use Rattle.of10_wire.specs.Layout.{Slot, Stand, width, part}

-- The part stands at the front of the bytes, and takes so many of them.
pub record StandsFirst {X : Type 0} (slots : X → List Slot) (bytes : List ℕ) (read : X × ℕ) : Type 0 where
  pub stand : Stand 0 (slots read.0) bytes
  pub wide : width (slots read.0) ≡ read.1
  pub some : 0 < read.1
  pub within : read.1 ≤ length bytes

-- The parts of the list stand from one place to another.
pub record StandsFrom {X : Type 0} (slots : X → List Slot) (from to : ℕ) (bytes : List ℕ) (list : List X) : Type 0 where
  pub stand : Stand from (flat_map slots list) bytes
  pub wide : from + width (flat_map slots list) ≡ to

-- Behind some parts there are more bytes, which are refused where they should begin with the next part. The bytes
-- stand at base in their frame, and places are counted there.
pub record IsRefusedIn {X : Type 0} (slots : X → List Slot) (refuses : ℕ → List ℕ → WireRefusal → Type 0) (base : ℕ) (bytes : List ℕ) (e : WireRefusal) : Type 0 where
  pub before : List X
  pub stand : Stand 0 (flat_map slots before) bytes
  pub more : width (flat_map slots before) < length bytes
  pub next : refuses (base + width (flat_map slots before)) (drop (width (flat_map slots before)) bytes) e

-- A part whose first w bytes tell the length of the whole, and that goes on with a list of inner parts: the refusal of
-- bytes at a place of their frame that begin with none, or with one whose inner parts are refused.
abbrev pub RefusesNest : {Y : Type 0} → (is_none : List ℕ → Bool) → (told : List ℕ → ℕ) → (w : ℕ) → (why : WireWhy) → (inner : Y → List Slot) → (refuses : ℕ → List ℕ → WireRefusal → Type 0) → ℕ → List ℕ → WireRefusal → Type 0
RefusesNest is_none told w why inner refuses place bytes e =
    (IsTrue (is_none bytes) × (e ≡ refusal place why))
    ⊎ ((is_none bytes ≡ false) × IsRefusedIn inner refuses (place + w) (part (told bytes - w) w bytes) e)
