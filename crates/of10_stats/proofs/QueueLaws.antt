-- The laws of queues and their properties.
use Rattle.std.proofs.Common.{◌≡◌, ◌≢◌, ℕ, ◌+◌, ◌-◌, ◌<◌, ◌≤◌, List, length, Bool, true, false, not, ◌||◌, leb, ltb, refl, sym, ap, ◌∙◌, inl, inr, arith}
use Rattle.std.proofs.lemmas.Bool.{cases_eq, both_ways, le-ltb, le-leb, leb-true, ltb-false, eqb-true, ne_eqb, not-false, or_parts}
use Rattle.std.specs.List.{flat_map, AllByRecursion}
use Rattle.of10_wire.specs.declared.refusal.WireRefusal.{WireRefusal}
use Rattle.of10_wire.specs.declared.refusal.WireWhy.TheVariants.{BadProperty}
use Rattle.of10_wire.specs.Refusals.{refusal}
use Rattle.of10_wire.specs.Layout.{width, number, part, Stand}
use Rattle.of10_wire.proofs.Standing.{length-part}
use Rattle.of10_wire.proofs.Items.{items-proper}
use Rattle.of10_wire.proofs.Once.{IsPart, items-once}
use Rattle.of10_wire.proofs.Tests.{refusal_is}
use Rattle.of10_wire.proofs.Listed.{PartOrRefusal, IsItem}
use Rattle.of10_wire.proofs.Nested.{IsNest, nest_item}
use Rattle.of10_stats.proofs.Told.{told_begun, told_fits}
use Rattle.of10_stats.specs.declared.queue.QueueProperty.{QueueProperty}
use Rattle.of10_stats.specs.declared.queue.QueueProperty.TheVariants.{MinRate, Other}
use Rattle.of10_stats.specs.declared.queue.Queue.{Queue}
use Rattle.of10_stats.specs.Queues.{property_slots, allows_property_len, is_no_property, IsProperProperty, RefusesProperty, queue_slots, queue_len, is_no_queue, IsProperQueue, RefusesQueue}

-- ---- properties

property-once : (i : ℕ) (x y : QueueProperty) (bytes : List ℕ) → Stand i (property_slots x) bytes → Stand i (property_slots y) bytes → x ≡ y
unfolding Stand property_slots
property-once i (MinRate a) (MinRate b) bytes h k = cc
property-once i (MinRate a) (Other m b) bytes h k = absurd (k.1 (sym k.0 ∙ h.0))
property-once i (Other m a) (MinRate b) bytes h k = absurd (h.1 (sym h.0 ∙ k.0))
property-once i (Other m a) (Other n b) bytes h k =
    let len : length a ≡ length b = omega (arith, h.2.0, k.2.0) in
    let same : m ≡ n = sym h.0 ∙ k.0 in
    cc

property-positive : (x : QueueProperty) → 0 < width (property_slots x)
unfolding property_slots
property-positive (MinRate rate) = omega arith
property-positive (Other kind body) = omega arith

pub property_part : IsPart property_slots
property_part = record { once = property-once; positive = property-positive }

good_from : (bytes : List ℕ) (kind len : ℕ) → number 2 0 bytes ≡ kind → number 2 2 bytes ≡ len → allows_property_len kind len ≡ true → 8 ≤ len → len ≤ length bytes → is_no_property bytes ≡ false
unfolding is_no_property
good_from bytes kind len h k allowed long within = rw (h, k, allowed, le-ltb (length bytes) 8 (omega arith), le-ltb (length bytes) len within) refl

other_len : (kind len : ℕ) → kind ≢ 1 → 8 ≤ len → allows_property_len kind len ≡ true
other_len kind len other long = rw (ne_eqb kind 1 other, le-leb 8 len long) refl

-- Where a property stands, and fits, nothing is bad.
property-good : (x : QueueProperty) (bytes : List ℕ) → Stand 0 (property_slots x) bytes → width (property_slots x) ≤ length bytes → is_no_property bytes ≡ false
unfolding property_slots Stand
property-good (MinRate rate) bytes h le = good_from bytes 1 16 h.0 h.1.0 refl (omega arith) le
property-good (Other kind body) bytes h le = good_from bytes kind (8 + length body) h.0 h.2.0 (other_len kind (8 + length body) h.1 (omega arith)) (omega arith) (omega (arith, le))

property-kept : (x : QueueProperty) (place : ℕ) (bytes : List ℕ) (e : WireRefusal) → Stand 0 (property_slots x) bytes → width (property_slots x) ≤ length bytes → RefusesProperty place bytes e → ⊥
property-kept x place bytes e h le r = both_ways (is_no_property bytes) (property-good x bytes h le) r.0

-- what bytes show that begin with a property
record BegunProperty (bytes : List ℕ) : Type 0 where
  pub allowed : allows_property_len (number 2 0 bytes) (number 2 2 bytes) ≡ true
  pub within : number 2 2 bytes ≤ length bytes

begun : (bytes : List ℕ) → is_no_property bytes ≡ false → BegunProperty bytes
unfolding is_no_property
begun bytes h =
    let parts = or_parts (ltb (length bytes) 8 || not (allows_property_len (number 2 0 bytes) (number 2 2 bytes))) (ltb (length bytes) (number 2 2 bytes)) h in
    let first = or_parts (ltb (length bytes) 8) (not (allows_property_len (number 2 0 bytes) (number 2 2 bytes))) parts.0 in
    record { allowed = not-false (allows_property_len (number 2 0 bytes) (number 2 2 bytes)) first.1; within = ltb-false (length bytes) (number 2 2 bytes) parts.1 }

abbrev There : List ℕ → Type 0
There bytes = (x : QueueProperty) × Stand 0 (property_slots x) bytes × (width (property_slots x) ≤ length bytes)

min_rate : (bytes : List ℕ) → BegunProperty bytes → number 2 0 bytes ≡ 1 → There bytes
unfolding Stand property_slots
min_rate bytes b is =
    let allowed : allows_property_len 1 (number 2 2 bytes) ≡ true = rw is at b.allowed in
    let len : number 2 2 bytes ≡ 16 = eqb-true (number 2 2 bytes) 16 allowed in
    (MinRate (number 2 8 bytes), (is, (len, (refl, tt))), omega (arith, len, b.within))

other_long : (kind len : ℕ) → kind ≢ 1 → allows_property_len kind len ≡ true → 8 ≤ len
other_long kind len other h =
    let test : leb 8 len ≡ true = rw (ne_eqb kind 1 other) at h in
    leb-true 8 len test

other : (bytes : List ℕ) → BegunProperty bytes → number 2 0 bytes ≢ 1 → There bytes
unfolding Stand property_slots
other bytes b is =
    let long : 8 ≤ number 2 2 bytes = other_long (number 2 0 bytes) (number 2 2 bytes) is b.allowed in
    let n = number 2 2 bytes - 8 in
    let len : length (part n 8 bytes) ≡ n = length-part n 8 bytes (omega (arith, b.within, long)) in
    let body : part (length (part n 8 bytes)) 8 bytes ≡ part n 8 bytes = ap (λ (m : ℕ). part m 8 bytes) len in
    (Other (number 2 0 bytes) (part n 8 bytes), (refl, is, (omega (arith, len, long), (body, tt))), omega (arith, len, long, b.within))

there : (bytes : List ℕ) → BegunProperty bytes → There bytes
there bytes b = elim (cases_eq (number 2 0 bytes) 1) [
  | inl is ↦ min_rate bytes b is
  | inr isnt ↦ other bytes b isnt
]

property_front : (place : ℕ) (bytes : List ℕ) (bad : Bool) → is_no_property bytes ≡ bad → PartOrRefusal property_slots RefusesProperty place bytes
property_front place bytes true is = inr (refusal place BadProperty, (is, refl))
property_front place bytes false is = inl (there bytes (begun bytes is))

pub property_item : IsItem property_slots RefusesProperty
property_item = record {
  part = property_part;
  kept = property-kept;
  refused-once = λ place bytes d e h k. h.1 ∙ sym k.1;
  refused-within = λ place bytes e h. refusal_is place (place + length bytes) BadProperty e (omega arith) (λ is. absurd cc) h.1;
  front = λ place bytes. property_front place bytes (is_no_property bytes) refl;
}

-- what stands can be written
property_proper : (i : ℕ) (x : QueueProperty) (bytes : List ℕ) → Stand i (property_slots x) bytes → IsProperProperty x
unfolding Stand property_slots
property_proper i (MinRate rate) bytes h = tt
property_proper i (Other kind body) bytes h = h.1

-- ---- queues

abbrev queue_of : (queue_id : ℕ) (properties : List QueueProperty) → Queue
queue_of queue_id properties = record { queue_id = queue_id; properties = properties }

width-queue : (queue : Queue) → width (queue_slots queue) ≡ 8 + width (flat_map property_slots queue.properties)
unfolding queue_slots
width-queue queue = omega arith

queue-once : (i : ℕ) (x y : Queue) (bytes : List ℕ) → Stand i (queue_slots x) bytes → Stand i (queue_slots y) bytes → x ≡ y
unfolding Stand queue_slots
queue-once i x y bytes h k =
    let same : x.properties ≡ y.properties = items-once property_slots property_part _ x.properties y.properties bytes h.1.1 k.1.1 (omega (arith, h.1.0, k.1.0)) in
    let e : queue_of x.queue_id x.properties ≡ queue_of y.queue_id y.properties = cc in
    e

queue_tells : (x : Queue) (bytes : List ℕ) → Stand 0 (queue_slots x) bytes → number 2 4 bytes ≡ 8 + width (flat_map property_slots x.properties)
unfolding Stand queue_slots
queue_tells x bytes h = h.1.0

queue_stands : (x : Queue) (bytes : List ℕ) → Stand 0 (queue_slots x) bytes → Stand 8 (flat_map property_slots x.properties) bytes
unfolding Stand queue_slots
queue_stands x bytes h = h.1.1

queue_begun : (bytes : List ℕ) → is_no_queue bytes ≡ false → (8 ≤ number 2 4 bytes) × (number 2 4 bytes ≤ length bytes)
unfolding is_no_queue
queue_begun bytes h = told_begun (length bytes) (number 2 4 bytes) 8 h

queue_fits : (bytes : List ℕ) → 8 ≤ number 2 4 bytes → number 2 4 bytes ≤ length bytes → is_no_queue bytes ≡ false
unfolding is_no_queue
queue_fits bytes low high = told_fits (length bytes) (number 2 4 bytes) 8 low high

queue_build : (properties : List QueueProperty) (bytes : List ℕ) → Stand 8 (flat_map property_slots properties) bytes → number 2 4 bytes ≡ 8 + width (flat_map property_slots properties)
    → (x : Queue) × Stand 0 (queue_slots x) bytes × (width (queue_slots x) ≡ number 2 4 bytes)
unfolding Stand queue_slots
queue_build properties bytes h told = (queue_of (number 4 0 bytes) properties, (refl, (told, h)), omega (arith, told))

queue_nest : IsNest queue_slots property_slots is_no_queue queue_len 8
queue_nest = record {
  once = queue-once;
  list = λ queue. queue.properties;
  some = omega arith;
  wide = width-queue;
  tells = λ x bytes h. omega (arith, queue_tells x bytes h, width-queue x);
  stands = queue_stands;
  begun = queue_begun;
  fits = queue_fits;
  build = queue_build;
}

pub queue_item : IsItem queue_slots RefusesQueue
queue_item = nest_item queue_slots property_slots is_no_queue queue_len 8 queue_nest RefusesProperty property_item BadProperty (λ is. absurd cc)

-- what stands can be written
queue_proper : (i : ℕ) (x : Queue) (bytes : List ℕ) → Stand i (queue_slots x) bytes → IsProperQueue x
unfolding Stand queue_slots
queue_proper i x bytes h = items-proper property_slots IsProperProperty property_proper _ x.properties bytes h.1.1

pub queues_proper : (i : ℕ) (xs : List Queue) (bytes : List ℕ) → Stand i (flat_map queue_slots xs) bytes → AllByRecursion IsProperQueue xs
queues_proper i xs bytes h = items-proper queue_slots IsProperQueue queue_proper i xs bytes h
