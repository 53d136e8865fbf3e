-- Lists of parts that tell their own lengths: of any bytes exactly one holds, that they are one such list, or that one
-- refusal stands.
use Rattle.std.proofs.Common.{◌≡◌, ℕ, zero, suc, ◌+◌, ◌<◌, ◌≤◌, List, [], ◌∷◌, ◌++◌, length, drop, refl, subst, inl, inr, ◌⊎◌, arith, length-drop}
use Rattle.std.proofs.lemmas.Bool.{cases_lt}
use Rattle.std.specs.List.{flat_map}
use Rattle.of10_wire.specs.declared.refusal.WireRefusal.{WireRefusal}
use Rattle.of10_wire.specs.Layout.{Slot, width, part, Stand, Spells}
use Rattle.of10_wire.specs.Refusals.{IsOfBytes}
use Rattle.of10_wire.specs.Lists.{IsRefusedIn}
use Rattle.of10_wire.proofs.Standing.{Stand-at, Stand-in_drop}
use Rattle.of10_wire.proofs.Items.{IsReadUpTo, read_none, read_more, part-here}
use Rattle.of10_wire.proofs.Once.{IsPart, next_item}

-- a part stands at the front of the bytes, or they are refused
abbrev pub PartOrRefusal : {X : Type 0} → (X → List Slot) → (ℕ → List ℕ → WireRefusal → Type 0) → ℕ → List ℕ → Type 0
PartOrRefusal {X = X} slots refuses place bytes = ((x : X) × Stand 0 (slots x) bytes × (width (slots x) ≤ length bytes)) ⊎ ((e : WireRefusal) × refuses place bytes e)

-- the laws of a part that tells its own length
pub record IsItem {X : Type 0} (slots : X → List Slot) (refuses : ℕ → List ℕ → WireRefusal → Type 0) : Type 0 where
  pub part : IsPart slots
  pub kept : (x : X) (place : ℕ) (bytes : List ℕ) (e : WireRefusal) → Stand 0 (slots x) bytes → width (slots x) ≤ length bytes → refuses place bytes e → ⊥
  pub refused-once : (place : ℕ) (bytes : List ℕ) (d e : WireRefusal) → refuses place bytes d → refuses place bytes e → d ≡ e
  pub refused-within : (place : ℕ) (bytes : List ℕ) (e : WireRefusal) → refuses place bytes e → IsOfBytes (place + length bytes) e
  pub front : (place : ℕ) (bytes : List ℕ) → PartOrRefusal slots refuses place bytes

-- ---- a list is not refused, and one refusal stands

-- where a list goes on, nothing is refused
goes_on : {X : Type 0} (slots : X → List Slot) (refuses : ℕ → List ℕ → WireRefusal → Type 0) (it : IsItem slots refuses) (base : ℕ) (xs : List X) (bytes : List ℕ) (e : WireRefusal)
    → Stand 0 (flat_map slots xs) bytes → width (flat_map slots xs) ≤ length bytes → (r : IsRefusedIn slots refuses base bytes e) → width (flat_map slots r.before) < width (flat_map slots xs) → ⊥
goes_on {X = X} slots refuses it base xs bytes e h le r lt =
    let at = width (flat_map slots r.before) in
    let found = next_item slots it.part 0 xs r.before bytes h r.stand lt in
    let there : Stand 0 (slots found.next) (drop at bytes) = Stand-in_drop 0 at (slots found.next) bytes (Stand-at (0 + at) (at + 0) (slots found.next) bytes (omega arith) found.stand) in
    it.kept found.next (base + at) (drop at bytes) e there (omega (arith, length-drop at bytes, found.within, le)) r.next

pub items-kept : {X : Type 0} (slots : X → List Slot) (refuses : ℕ → List ℕ → WireRefusal → Type 0) (it : IsItem slots refuses) (base : ℕ) (xs : List X) (bytes : List ℕ) (e : WireRefusal)
    → Spells (flat_map slots xs) bytes → IsRefusedIn slots refuses base bytes e → ⊥
items-kept slots refuses it base xs bytes e h r = goes_on slots refuses it base xs bytes e h.stand (omega (arith, h.whole)) r (omega (arith, h.whole, r.more))

pub items-refused-once : {X : Type 0} (slots : X → List Slot) (refuses : ℕ → List ℕ → WireRefusal → Type 0) (it : IsItem slots refuses) (base : ℕ) (bytes : List ℕ) (d e : WireRefusal)
    → IsRefusedIn slots refuses base bytes d → IsRefusedIn slots refuses base bytes e → d ≡ e
items-refused-once slots refuses it base bytes d e h k =
    let m = width (flat_map slots h.before) in
    let n = width (flat_map slots k.before) in
    elim (cases_lt m n) [
      | inl lt ↦ absurd (goes_on slots refuses it base k.before bytes d k.stand (omega (arith, k.more)) h lt)
      | inr le ↦ elim (cases_lt n m) [
        | inl lt ↦ absurd (goes_on slots refuses it base h.before bytes e h.stand (omega (arith, h.more)) k lt)
        | inr ge ↦
            let same : m ≡ n = omega arith in
            let there : refuses (base + n) (drop n bytes) d = subst (λ (i : ℕ). refuses (base + i) (drop i bytes) d) same h.next in
            it.refused-once (base + n) (drop n bytes) d e there k.next
      ]
    ]

pub items-refused-within : {X : Type 0} (slots : X → List Slot) (refuses : ℕ → List ℕ → WireRefusal → Type 0) (it : IsItem slots refuses) (base : ℕ) (bytes : List ℕ) (e : WireRefusal)
    → IsRefusedIn slots refuses base bytes e → IsOfBytes (base + length bytes) e
items-refused-within slots refuses it base bytes e r =
    let at = width (flat_map slots r.before) in
    let there = it.refused-within (base + at) (drop at bytes) e r.next in
    record { near = omega (arith, there.near, length-drop at bytes, r.more); named = there.named }

-- ---- a list or a refusal

-- the bytes are a list, or are refused
abbrev pub ListOrRefusal : {X : Type 0} → (X → List Slot) → (ℕ → List ℕ → WireRefusal → Type 0) → ℕ → List ℕ → Type 0
ListOrRefusal {X = X} slots refuses base bytes = ((xs : List X) × Spells (flat_map slots xs) bytes) ⊎ ((e : WireRefusal) × IsRefusedIn slots refuses base bytes e)

found_end : {X : Type 0} (slots : X → List Slot) (refuses : ℕ → List ℕ → WireRefusal → Type 0) (base : ℕ) (done : List X) (at : ℕ) (bytes : List ℕ)
    → IsReadUpTo (flat_map slots done) at bytes → length bytes ≤ at → ListOrRefusal slots refuses base bytes
found_end slots refuses base done at bytes h le = inl (done, record { stand = h.stand; whole = omega (arith, h.place, h.within) })

found_refused : {X : Type 0} (slots : X → List Slot) (refuses : ℕ → List ℕ → WireRefusal → Type 0) (base : ℕ) (done : List X) (at : ℕ) (bytes : List ℕ) (e : WireRefusal)
    → IsReadUpTo (flat_map slots done) at bytes → at < length bytes → refuses (base + at) (drop at bytes) e → ListOrRefusal slots refuses base bytes
found_refused slots refuses base done at bytes e h lt r = inr (
  e,
  record {
    before = done;
    stand = h.stand;
    more = omega (arith, h.place);
    next = subst (λ (i : ℕ). refuses (base + i) (drop i bytes) e) h.place r;
  },
)

-- one more part is read
more_read : {X : Type 0} (slots : X → List Slot) (done : List X) (x : X) (at : ℕ) (bytes : List ℕ)
    → IsReadUpTo (flat_map slots done) at bytes → Stand 0 (slots x) (drop at bytes) → width (slots x) ≤ length (drop at bytes) → IsReadUpTo (flat_map slots (done ++ x ∷ [])) (at + width (slots x)) bytes
more_read slots done x at bytes h stand le = read_more slots done x at (width (slots x)) bytes h stand refl (omega (arith, le, length-drop at bytes, h.within))

found_step : {X : Type 0} (slots : X → List Slot) (refuses : ℕ → List ℕ → WireRefusal → Type 0) (base : ℕ) (done : List X) (at : ℕ) (bytes : List ℕ)
    → IsReadUpTo (flat_map slots done) at bytes → at < length bytes → PartOrRefusal slots refuses (base + at) (drop at bytes)
    → ((x : X) → IsReadUpTo (flat_map slots (done ++ x ∷ [])) (at + width (slots x)) bytes → ListOrRefusal slots refuses base bytes) → ListOrRefusal slots refuses base bytes
found_step slots refuses base done at bytes h lt (inl (x, stand, le)) more = more x (more_read slots done x at bytes h stand le)
found_step slots refuses base done at bytes h lt (inr (e, r)) more = found_refused slots refuses base done at bytes e h lt r

found_within : {X : Type 0} (slots : X → List Slot) (refuses : ℕ → List ℕ → WireRefusal → Type 0) (it : IsItem slots refuses) (base : ℕ) (n : ℕ) (done : List X) (at : ℕ) (bytes : List ℕ)
    → IsReadUpTo (flat_map slots done) at bytes → length bytes ≤ at + n → ListOrRefusal slots refuses base bytes
found_within slots refuses it base zero done at bytes h le = found_end slots refuses base done at bytes h (omega arith)
found_within slots refuses it base (suc n) done at bytes h le = elim (cases_lt at (length bytes)) [
  | inl lt ↦ found_step slots refuses base done at bytes h lt (it.front (base + at) (drop at bytes)) (λ x read. found_within slots refuses it base n (done ++ x ∷ []) (at + width (slots x)) bytes read (omega (arith, it.part.positive x)))
  | inr ge ↦ found_end slots refuses base done at bytes h ge
]

pub items-found : {X : Type 0} (slots : X → List Slot) (refuses : ℕ → List ℕ → WireRefusal → Type 0) (it : IsItem slots refuses) (base : ℕ) (bytes : List ℕ) → ListOrRefusal slots refuses base bytes
items-found slots refuses it base bytes = found_within slots refuses it base (length bytes) [] 0 bytes (read_none slots bytes) (omega arith)

-- ---- in a part of the bytes

-- parts that stand in a frame are not refused
pub items-accepted : {X : Type 0} (slots : X → List Slot) (refuses : ℕ → List ℕ → WireRefusal → Type 0) (it : IsItem slots refuses) (base from n : ℕ) (xs : List X) (bytes : List ℕ) (e : WireRefusal)
    → Stand from (flat_map slots xs) bytes → width (flat_map slots xs) ≡ n → from + n ≤ length bytes → IsRefusedIn slots refuses base (part n from bytes) e → ⊥
items-accepted slots refuses it base from n xs bytes e h wide le r = items-kept slots refuses it base xs (part n from bytes) e (part-here from n (flat_map slots xs) bytes h wide le) r
