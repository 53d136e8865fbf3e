-- Parts one after the other: read, written, and at most one list of them.
use Rattle.std.proofs.Common.{◌≡◌, ℕ, zero, suc, ◌+◌, ◌-◌, ◌<◌, ◌≤◌, List, [], ◌∷◌, ◌++◌, length, take, drop, get_or, refl, sym, ap, subst, ◌∙◌, Result, Ok, Err, arith, length-drop}
use Rattle.std.proofs.lemmas.List.{append-nil, take_more, take_all, length-take}
use Rattle.std.proofs.lemmas.Grind.{flat_map-append}
use Rattle.std.proofs.lemmas.List.Concat.{flat_map-cons}
use Rattle.std.specs.Global.{Vec}
use Rattle.std.specs.List.{flat_map, AllByRecursion}
use Rattle.of10_wire.specs.Layout.{Slot, width, part, Stand, Spells, appended}
use Rattle.of10_wire.specs.declared.refusal.WireRefusal.{WireRefusal}
use Rattle.of10_wire.specs.Refusals.{Answers}
use Rattle.of10_wire.specs.Lists.{StandsFrom}
use Rattle.of10_wire.specs.Writing.{Writes}
use Rattle.of10_wire.proofs.Standing.{width-append, Stand-append, Stand-front, Stand-back, Stand-drop, Stand-at, Stand-part, length-part, Stand-in_drop, Stand-in_take, appended-append, Fit-append}

-- these slots are the bytes up to a place
pub record IsReadUpTo (slots : List Slot) (at : ℕ) (bytes : List ℕ) : Type 0 where
  pub stand : Stand 0 slots bytes
  pub place : at ≡ width slots
  pub within : at ≤ length bytes

flat_map-one : {X : Type 0} (item : X → List Slot) (xs : List X) (x : X) → flat_map item (xs ++ x ∷ []) ≡ flat_map item xs ++ item x
flat_map-one item xs x = simp (flat_map-append, append-nil)

pub read_none : {X : Type 0} (item : X → List Slot) (bytes : List ℕ) → IsReadUpTo (flat_map item []) 0 bytes
unfolding Stand
read_none item bytes = record { stand = tt; place = refl; within = omega arith }

-- one more item
pub read_more : {X : Type 0} (item : X → List Slot) (xs : List X) (x : X) (at n : ℕ) (bytes : List ℕ)
    → IsReadUpTo (flat_map item xs) at bytes → Stand 0 (item x) (drop at bytes) → width (item x) ≡ n → at + n ≤ length bytes
    → IsReadUpTo (flat_map item (xs ++ x ∷ [])) (at + n) bytes
read_more item xs x at n bytes so_far stand wide le =
    let here : Stand (0 + width (flat_map item xs)) (item x) bytes = Stand-at (at + 0) (0 + width (flat_map item xs)) (item x) bytes (omega (arith, so_far.place)) (Stand-drop 0 at (item x) bytes stand) in
    let both : IsReadUpTo (flat_map item xs ++ item x) (at + n) bytes = record {
      stand = Stand-append 0 (flat_map item xs) (item x) bytes so_far.stand here;
      place = omega (arith, so_far.place, width-append (flat_map item xs) (item x));
      within = le;
    } in
    subst (λ (s : List Slot). IsReadUpTo s (at + n) bytes) (sym (flat_map-one item xs x)) both

-- ---- from a place on

pub record IsReadFrom (from : ℕ) (slots : List Slot) (at : ℕ) (bytes : List ℕ) : Type 0 where
  pub stand : Stand from slots bytes
  pub place : at ≡ from + width slots
  pub within : at ≤ length bytes

pub from_none : {X : Type 0} (item : X → List Slot) (from : ℕ) (bytes : List ℕ) → from ≤ length bytes → IsReadFrom from (flat_map item []) from bytes
unfolding Stand
from_none item from bytes le = record { stand = tt; place = omega arith; within = le }

pub from_more : {X : Type 0} (item : X → List Slot) (from : ℕ) (xs : List X) (x : X) (at n : ℕ) (bytes : List ℕ)
    → IsReadFrom from (flat_map item xs) at bytes → Stand at (item x) bytes → width (item x) ≡ n → at + n ≤ length bytes
    → IsReadFrom from (flat_map item (xs ++ x ∷ [])) (at + n) bytes
from_more item from xs x at n bytes so_far stand wide le =
    let here : Stand (from + width (flat_map item xs)) (item x) bytes = Stand-at at (from + width (flat_map item xs)) (item x) bytes so_far.place stand in
    let both : IsReadFrom from (flat_map item xs ++ item x) (at + n) bytes = record {
      stand = Stand-append from (flat_map item xs) (item x) bytes so_far.stand here;
      place = omega (arith, so_far.place, width-append (flat_map item xs) (item x));
      within = le;
    } in
    subst (λ (s : List Slot). IsReadFrom from s (at + n) bytes) (sym (flat_map-one item xs x)) both

-- ---- the first of a list, and the others

pub width-cons : {X : Type 0} (item : X → List Slot) (x : X) (xs : List X) → width (flat_map item (x ∷ xs)) ≡ width (item x) + width (flat_map item xs)
width-cons item x xs = rw flat_map-cons (width-append (item x) (flat_map item xs))

pub first-stands : {X : Type 0} (item : X → List Slot) (i : ℕ) (x : X) (xs : List X) (bytes : List ℕ) → Stand i (flat_map item (x ∷ xs)) bytes → Stand i (item x) bytes
first-stands item i x xs bytes h = let k = rw flat_map-cons at h in Stand-front i (item x) (flat_map item xs) bytes k

pub others-stand : {X : Type 0} (item : X → List Slot) (i : ℕ) (x : X) (xs : List X) (bytes : List ℕ) → Stand i (flat_map item (x ∷ xs)) bytes → Stand (i + width (item x)) (flat_map item xs) bytes
others-stand item i x xs bytes h = let k = rw flat_map-cons at h in Stand-back i (item x) (flat_map item xs) bytes k

-- parts of which nothing is asked
pub all_free : {X : Type 0} (xs : List X) → AllByRecursion (λ (x : X). Unit {0}) xs
all_free {X = X} [] = tt
all_free {X = X} (x ∷ xs) = (tt, all_free xs)

-- what holds of each part that stands holds of all
pub items-proper : {X : Type 0} (item : X → List Slot) (P : X → Type 0) (each : (i : ℕ) (x : X) (bytes : List ℕ) → Stand i (item x) bytes → P x) (i : ℕ) (xs : List X) (bytes : List ℕ)
    → Stand i (flat_map item xs) bytes → AllByRecursion P xs
items-proper {X = X} item P each i [] bytes h = tt
items-proper {X = X} item P each i (x ∷ xs) bytes h = (each i x bytes (first-stands item i x xs bytes h), items-proper item P each (i + width (item x)) xs bytes (others-stand item i x xs bytes h))

-- ---- in a part of the bytes

-- what is a part of the bytes stands in the whole
pub part-whole : (from n : ℕ) (slots : List Slot) (bytes : List ℕ) → from + n ≤ length bytes → Spells slots (part n from bytes) → Stand from slots bytes × (width slots ≡ n)
part-whole from n slots bytes le h =
    let len : length (part n from bytes) ≡ n = length-part n from bytes le in
    (Stand-part n from slots bytes (omega (arith, h.whole, len)) h.stand, omega (arith, h.whole, len))

pub items_there : {X : Type 0} (slots : X → List Slot) (from to : ℕ) (bytes : List ℕ) (r : Result (List X) WireRefusal) (R : WireRefusal → Type 0) → from ≤ to → to ≤ length bytes
    → Answers r (λ list. Spells (flat_map slots list) (part (to - from) from bytes)) R → Answers r (StandsFrom slots from to bytes) R
items_there {X = X} slots from to bytes (Ok list) R low high h =
    let both = part-whole from (to - from) (flat_map slots list) bytes (omega arith) h in
    record { stand = both.0; wide = omega (arith, both.1) }
items_there {X = X} slots from to bytes (Err e) R low high h = h

-- what stands in the whole was a part of it
pub part-here : (from n : ℕ) (slots : List Slot) (bytes : List ℕ) → Stand from slots bytes → width slots ≡ n → from + n ≤ length bytes → Spells slots (part n from bytes)
unfolding part
part-here from n slots bytes h wide le = record {
  stand = Stand-in_take 0 n slots (drop from bytes) (omega arith) (Stand-in_drop 0 from slots bytes (Stand-at from (from + 0) slots bytes (omega arith) h));
  whole = omega (arith, length-take n (drop from bytes), length-drop from bytes);
}

-- ---- writing items

-- the first i items, with one more
pub slots-more : {X : Type 0} (item : X → List Slot) (xs : List X) (i : ℕ) (x d : X) → i < length xs → x ≡ get_or xs i d
    → flat_map item (take (i + 1) xs) ≡ flat_map item (take i xs) ++ item x
slots-more {X = X} item xs i x d lt is = ap (flat_map item) (take_more xs i d lt ∙ ap (λ (y : X). take i xs ++ y ∷ []) (sym is)) ∙ flat_map-one item (take i xs) x

width-take : {X : Type 0} (item : X → List Slot) (i : ℕ) (xs : List X) → width (flat_map item (take i xs)) ≤ width (flat_map item xs)
width-take item zero xs = omega arith
width-take item (suc i) [] = omega arith
width-take item (suc i) (x ∷ xs) = omega (arith, width-cons item x (take i xs), width-cons item x xs, width-take item i xs)

-- the first i items are written
pub record IsWritten {X : Type 0} (item : X → List Slot) (xs : List X) (i : ℕ) (old new : Vec ℕ) : Type 0 where
  pub front : Writes old new (flat_map item (take i xs))
  pub within : i ≤ length xs

pub written_none : {X : Type 0} (item : X → List Slot) (xs : List X) (v : Vec ℕ) → IsWritten item xs 0 v v
written_none item xs v = record { front = record { items = refl; len = omega arith; capacity = omega arith; fits = tt }; within = omega arith }

pub Writes-then : (a b c : Vec ℕ) (xs ys : List Slot) → Writes a b xs → Writes b c ys → Writes a c (xs ++ ys)
Writes-then a b c xs ys p q = record {
  items = q.items ∙ ap (λ (t : List ℕ). appended t ys) p.items ∙ sym (appended-append a.items xs ys);
  len = omega (arith, width-append xs ys, p.len, q.len);
  capacity = omega (arith, p.capacity, q.capacity);
  fits = Fit-append xs ys p.fits q.fits;
}

pub written_more : {X : Type 0} (item : X → List Slot) (xs : List X) (i : ℕ) (x d : X) (old mid new : Vec ℕ) → i < length xs → x ≡ get_or xs i d
    → IsWritten item xs i old mid → Writes mid new (item x) → IsWritten item xs (i + 1) old new
written_more item xs i x d old mid new lt is so_far more = record {
  front = subst (λ (s : List Slot). Writes old new s) (sym (slots-more item xs i x d lt is)) (Writes-then old mid new (flat_map item (take i xs)) (item x) so_far.front more);
  within = omega arith;
}

pub written_all : {X : Type 0} (item : X → List Slot) (xs : List X) (i : ℕ) (old new : Vec ℕ) → length xs ≤ i → IsWritten item xs i old new → Writes old new (flat_map item xs)
written_all {X = X} item xs i old new le so_far =
    subst (λ (ys : List X). Writes old new (flat_map item ys)) (take_all i xs le) so_far.front

-- room for all is room for the next
pub width-next : {X : Type 0} (item : X → List Slot) (xs : List X) (i : ℕ) (x d : X) → i < length xs → x ≡ get_or xs i d
    → width (flat_map item (take i xs)) + width (item x) ≤ width (flat_map item xs)
width-next item xs i x d lt is = omega (arith, ap width (slots-more item xs i x d lt is), width-append (flat_map item (take i xs)) (item x), width-take item (i + 1) xs)

pub width-more : {X : Type 0} (item : X → List Slot) (xs : List X) (i : ℕ) (x d : X) → i < length xs → x ≡ get_or xs i d
    → width (flat_map item (take (i + 1) xs)) ≡ width (flat_map item (take i xs)) + width (item x)
width-more item xs i x d lt is = omega (arith, ap width (slots-more item xs i x d lt is), width-append (flat_map item (take i xs)) (item x))
