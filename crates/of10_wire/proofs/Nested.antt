-- Parts that hold a list of inner parts.
use Rattle.std.proofs.Common.{◌≡◌, ◌≢◌, ℕ, ◌+◌, ◌-◌, ◌<◌, ◌≤◌, List, length, Bool, true, false, refl, sym, ◌∙◌, inl, inr, arith}
use Rattle.std.proofs.lemmas.Bool.{both_ways}
use Rattle.std.specs.List.{flat_map}
use Rattle.of10_wire.specs.declared.refusal.WireRefusal.{WireRefusal}
use Rattle.of10_wire.specs.declared.refusal.WireWhy.{WireWhy}
use Rattle.of10_wire.specs.declared.refusal.WireWhy.TheVariants.{Memory}
use Rattle.of10_wire.specs.Refusals.{refusal, IsOfBytes}
use Rattle.of10_wire.specs.Layout.{Slot, width, part, Stand}
use Rattle.of10_wire.specs.Lists.{RefusesNest}
use Rattle.of10_wire.proofs.Standing.{length-part}
use Rattle.of10_wire.proofs.Items.{part-whole}
use Rattle.of10_wire.proofs.Tests.{refusal_is}
use Rattle.of10_wire.proofs.Listed as listed
use Rattle.of10_wire.proofs.Listed.{PartOrRefusal, IsItem, items-accepted, items-refused-once, items-refused-within, items-found}

-- the laws of such a part, whose first w bytes tell the length of the whole
pub record IsNest {X Y : Type 0} (slots : X → List Slot) (inner : Y → List Slot) (is_none : List ℕ → Bool) (told : List ℕ → ℕ) (w : ℕ) : Type 0 where
  pub once : (i : ℕ) (x y : X) (bytes : List ℕ) → Stand i (slots x) bytes → Stand i (slots y) bytes → x ≡ y
  pub list : X → List Y
  pub some : 0 < w
  pub wide : (x : X) → width (slots x) ≡ w + width (flat_map inner (list x))
  pub tells : (x : X) (bytes : List ℕ) → Stand 0 (slots x) bytes → told bytes ≡ width (slots x)
  pub stands : (x : X) (bytes : List ℕ) → Stand 0 (slots x) bytes → Stand w (flat_map inner (list x)) bytes
  pub begun : (bytes : List ℕ) → is_none bytes ≡ false → (w ≤ told bytes) × (told bytes ≤ length bytes)
  pub fits : (bytes : List ℕ) → w ≤ told bytes → told bytes ≤ length bytes → is_none bytes ≡ false
  pub build : (ys : List Y) (bytes : List ℕ) → Stand w (flat_map inner ys) bytes → told bytes ≡ w + width (flat_map inner ys) → (x : X) × Stand 0 (slots x) bytes × (width (slots x) ≡ told bytes)

nest_kept : {X Y : Type 0} (slots : X → List Slot) (inner : Y → List Slot) (is_none : List ℕ → Bool) (told : List ℕ → ℕ) (w : ℕ) (nest : IsNest slots inner is_none told w)
    (refuses : ℕ → List ℕ → WireRefusal → Type 0) (it : IsItem inner refuses) (why : WireWhy) (x : X) (place : ℕ) (bytes : List ℕ) (e : WireRefusal)
    → Stand 0 (slots x) bytes → width (slots x) ≤ length bytes → RefusesNest is_none told w why inner refuses place bytes e → ⊥
nest_kept slots inner is_none told w nest refuses it why x place bytes e h le (inl r) =
    let len = nest.tells x bytes h in
    both_ways (is_none bytes) (nest.fits bytes (omega (arith, len, nest.wide x)) (omega (arith, len, le))) r.0
nest_kept slots inner is_none told w nest refuses it why x place bytes e h le (inr r) =
    let len = nest.tells x bytes h in
    let wide = nest.wide x in
    items-accepted inner refuses it (place + w) w (told bytes - w) (nest.list x) bytes e (nest.stands x bytes h) (omega (arith, len, wide)) (omega (arith, len, wide, le)) r.1

nest_once : {Y : Type 0} (inner : Y → List Slot) (is_none : List ℕ → Bool) (told : List ℕ → ℕ) (w : ℕ)
    (refuses : ℕ → List ℕ → WireRefusal → Type 0) (it : IsItem inner refuses) (why : WireWhy) (place : ℕ) (bytes : List ℕ) (d e : WireRefusal)
    → RefusesNest is_none told w why inner refuses place bytes d → RefusesNest is_none told w why inner refuses place bytes e → d ≡ e
nest_once inner is_none told w refuses it why place bytes d e (inl h) (inl k) = h.1 ∙ sym k.1
nest_once inner is_none told w refuses it why place bytes d e (inl h) (inr k) = absurd (both_ways (is_none bytes) k.0 h.0)
nest_once inner is_none told w refuses it why place bytes d e (inr h) (inl k) = absurd (both_ways (is_none bytes) h.0 k.0)
nest_once inner is_none told w refuses it why place bytes d e (inr h) (inr k) = items-refused-once inner refuses it (place + w) (part (told bytes - w) w bytes) d e h.1 k.1

nest_within : {X Y : Type 0} (slots : X → List Slot) (inner : Y → List Slot) (is_none : List ℕ → Bool) (told : List ℕ → ℕ) (w : ℕ) (nest : IsNest slots inner is_none told w)
    (refuses : ℕ → List ℕ → WireRefusal → Type 0) (it : IsItem inner refuses) (why : WireWhy) → why ≢ Memory → (place : ℕ) (bytes : List ℕ) (e : WireRefusal)
    → RefusesNest is_none told w why inner refuses place bytes e → IsOfBytes (place + length bytes) e
nest_within slots inner is_none told w nest refuses it why named place bytes e (inl h) = refusal_is place (place + length bytes) why e (omega arith) named h.1
nest_within slots inner is_none told w nest refuses it why named place bytes e (inr h) =
    let room = nest.begun bytes h.0 in
    let near = items-refused-within inner refuses it (place + w) (part (told bytes - w) w bytes) e h.1 in
    record { near = omega (arith, near.near, room.0, room.1, length-part (told bytes - w) w bytes (omega (arith, room.0, room.1))); named = near.named }

nest_list : {X Y : Type 0} (slots : X → List Slot) (inner : Y → List Slot) (is_none : List ℕ → Bool) (told : List ℕ → ℕ) (w : ℕ) (nest : IsNest slots inner is_none told w)
    (refuses : ℕ → List ℕ → WireRefusal → Type 0) (why : WireWhy) (place : ℕ) (bytes : List ℕ)
    → is_none bytes ≡ false → listed.ListOrRefusal inner refuses (place + w) (part (told bytes - w) w bytes) → PartOrRefusal slots (RefusesNest is_none told w why inner refuses) place bytes
nest_list slots inner is_none told w nest refuses why place bytes is (inr (e, r)) = inr (e, inr (is, r))
nest_list slots inner is_none told w nest refuses why place bytes is (inl (ys, h)) =
    let room = nest.begun bytes is in
    let there = part-whole w (told bytes - w) (flat_map inner ys) bytes (omega (arith, room.0, room.1)) h in
    let built = nest.build ys bytes there.0 (omega (arith, there.1, room.0)) in
    inl (built.0, built.1, omega (arith, built.2, room.1))

nest_front : {X Y : Type 0} (slots : X → List Slot) (inner : Y → List Slot) (is_none : List ℕ → Bool) (told : List ℕ → ℕ) (w : ℕ) (nest : IsNest slots inner is_none told w)
    (refuses : ℕ → List ℕ → WireRefusal → Type 0) (it : IsItem inner refuses) (why : WireWhy) (place : ℕ) (bytes : List ℕ) (bad : Bool)
    → is_none bytes ≡ bad → PartOrRefusal slots (RefusesNest is_none told w why inner refuses) place bytes
nest_front slots inner is_none told w nest refuses it why place bytes true is = inr (refusal place why, inl (is, refl))
nest_front slots inner is_none told w nest refuses it why place bytes false is = nest_list slots inner is_none told w nest refuses why place bytes is (items-found inner refuses it (place + w) (part (told bytes - w) w bytes))

pub nest_item : {X Y : Type 0} (slots : X → List Slot) (inner : Y → List Slot) (is_none : List ℕ → Bool) (told : List ℕ → ℕ) (w : ℕ) (nest : IsNest slots inner is_none told w)
    (refuses : ℕ → List ℕ → WireRefusal → Type 0) (it : IsItem inner refuses) (why : WireWhy) → why ≢ Memory → IsItem slots (RefusesNest is_none told w why inner refuses)
nest_item slots inner is_none told w nest refuses it why named = record {
  part = record { once = nest.once; positive = λ x. omega (arith, nest.wide x, nest.some) };
  kept = nest_kept slots inner is_none told w nest refuses it why;
  refused-once = nest_once inner is_none told w refuses it why;
  refused-within = nest_within slots inner is_none told w nest refuses it why named;
  front = λ place bytes. nest_front slots inner is_none told w nest refuses it why place bytes (is_none bytes) refl;
}
