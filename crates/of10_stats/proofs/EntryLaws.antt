-- The laws of flow entries.
use Rattle.std.proofs.Common.{◌≡◌, ℕ, ◌+◌, ◌≤◌, List, length, false, refl, arith}
use Rattle.std.specs.List.{flat_map, AllByRecursion}
use Rattle.of10_wire.specs.declared.types.FlowMatch.{FlowMatch}
use Rattle.of10_wire.specs.declared.action.Action.{Action}
use Rattle.of10_wire.specs.declared.refusal.WireWhy.TheVariants.{BadStat}
use Rattle.of10_wire.specs.Layout.{width, number, Stand}
use Rattle.of10_wire.specs.Parts.{match_slots}
use Rattle.of10_wire.specs.Actions.{action_slots, RefusesAction}
use Rattle.of10_wire.proofs.Standing.{Stand-front, width-append}
use Rattle.of10_wire.proofs.Items.{items-proper}
use Rattle.of10_wire.proofs.Once.{items-once}
use Rattle.of10_wire.proofs.Listed.{IsItem}
use Rattle.of10_wire.proofs.Nested.{IsNest, nest_item}
use Rattle.of10_wire.proofs.PartLaws.{match-once, match_there, width-match, behind_match, with_match}
use Rattle.of10_wire.proofs.ActionLaws.{action_part, action_item, actions_proper}
use Rattle.of10_stats.proofs.Told.{told_begun, told_fits}
use Rattle.of10_stats.specs.declared.entry.FlowEntry.{FlowEntry}
use Rattle.of10_stats.specs.Entries.{entry_slots, after_match, entry_len, is_no_entry, IsProperEntry, RefusesEntry}

abbrev entry_of : (table_id : ℕ) (flow : FlowMatch) (duration_sec duration_nsec priority idle_timeout hard_timeout cookie packet_count byte_count : ℕ) (actions : List Action) → FlowEntry
entry_of table_id flow duration_sec duration_nsec priority idle_timeout hard_timeout cookie packet_count byte_count actions = record {
  table_id = table_id;
  flow = flow;
  duration_sec = duration_sec;
  duration_nsec = duration_nsec;
  priority = priority;
  idle_timeout = idle_timeout;
  hard_timeout = hard_timeout;
  cookie = cookie;
  packet_count = packet_count;
  byte_count = byte_count;
  actions = actions;
}

width-entry : (entry : FlowEntry) → width (entry_slots entry) ≡ 88 + width (flat_map action_slots entry.actions)
unfolding entry_slots
width-entry entry = omega (arith, width-append (match_slots entry.flow) (after_match entry), width-match entry.flow)

entry-once : (i : ℕ) (x y : FlowEntry) (bytes : List ℕ) → Stand i (entry_slots x) bytes → Stand i (entry_slots y) bytes → x ≡ y
unfolding Stand entry_slots
entry-once i x y bytes h k =
    let at = i + 2 + 1 + 1 in
    let flow : x.flow ≡ y.flow = match-once at x.flow y.flow bytes (Stand-front at (match_slots x.flow) (after_match x) bytes h.1.1) (Stand-front at (match_slots y.flow) (after_match y) bytes k.1.1) in
    let p : Stand (at + 40) (after_match x) bytes = behind_match at x.flow (after_match x) bytes h.1.1 in
    let q : Stand (at + 40) (after_match y) bytes = behind_match at y.flow (after_match y) bytes k.1.1 in
    let same : x.actions ≡ y.actions = items-once action_slots action_part _ x.actions y.actions bytes p.1.1.1.1.1.1.1.1 q.1.1.1.1.1.1.1.1 (omega (arith, h.0, k.0)) in
    let e : entry_of x.table_id x.flow x.duration_sec x.duration_nsec x.priority x.idle_timeout x.hard_timeout x.cookie x.packet_count x.byte_count x.actions
    ≡ entry_of y.table_id y.flow y.duration_sec y.duration_nsec y.priority y.idle_timeout y.hard_timeout y.cookie y.packet_count y.byte_count y.actions = cc in
    e

entry_tells : (x : FlowEntry) (bytes : List ℕ) → Stand 0 (entry_slots x) bytes → number 2 0 bytes ≡ 88 + width (flat_map action_slots x.actions)
unfolding Stand entry_slots
entry_tells x bytes h = h.0

entry_stands : (x : FlowEntry) (bytes : List ℕ) → Stand 0 (entry_slots x) bytes → Stand 88 (flat_map action_slots x.actions) bytes
unfolding Stand entry_slots
entry_stands x bytes h = (behind_match 4 x.flow (after_match x) bytes h.1.1).1.1.1.1.1.1.1.1

entry_begun : (bytes : List ℕ) → is_no_entry bytes ≡ false → (88 ≤ number 2 0 bytes) × (number 2 0 bytes ≤ length bytes)
unfolding is_no_entry
entry_begun bytes h = told_begun (length bytes) (number 2 0 bytes) 88 h

entry_fits : (bytes : List ℕ) → 88 ≤ number 2 0 bytes → number 2 0 bytes ≤ length bytes → is_no_entry bytes ≡ false
unfolding is_no_entry
entry_fits bytes low high = told_fits (length bytes) (number 2 0 bytes) 88 low high

abbrev entry_there : List Action → List ℕ → FlowEntry
entry_there actions bytes =
    entry_of (number 1 2 bytes) (match_there 4 bytes).0 (number 4 44 bytes) (number 4 48 bytes) (number 2 52 bytes) (number 2 54 bytes) (number 2 56 bytes) (number 8 64 bytes) (number 8 72 bytes) (number 8 80 bytes) actions

entry_built_stand : (actions : List Action) (bytes : List ℕ) → Stand 88 (flat_map action_slots actions) bytes → number 2 0 bytes ≡ 88 + width (flat_map action_slots actions) → Stand 0 (entry_slots (entry_there actions bytes)) bytes
unfolding Stand entry_slots
entry_built_stand actions bytes h told =
    let behind : Stand 44 (after_match (entry_there actions bytes)) bytes = (refl, (refl, (refl, (refl, (refl, (refl, (refl, (refl, h)))))))) in
    (told, (refl, with_match 4 (match_there 4 bytes).0 (after_match (entry_there actions bytes)) bytes (match_there 4 bytes).1 behind))

entry_build : (actions : List Action) (bytes : List ℕ) → Stand 88 (flat_map action_slots actions) bytes → number 2 0 bytes ≡ 88 + width (flat_map action_slots actions)
    → (x : FlowEntry) × Stand 0 (entry_slots x) bytes × (width (entry_slots x) ≡ number 2 0 bytes)
entry_build actions bytes h told = (entry_there actions bytes, entry_built_stand actions bytes h told, omega (arith, told, width-entry (entry_there actions bytes)))

entry_nest : IsNest entry_slots action_slots is_no_entry entry_len 88
entry_nest = record {
  once = entry-once;
  list = λ entry. entry.actions;
  some = omega arith;
  wide = width-entry;
  tells = λ x bytes h. omega (arith, entry_tells x bytes h, width-entry x);
  stands = entry_stands;
  begun = entry_begun;
  fits = entry_fits;
  build = entry_build;
}

pub entry_item : IsItem entry_slots RefusesEntry
entry_item = nest_item entry_slots action_slots is_no_entry entry_len 88 entry_nest RefusesAction action_item BadStat (λ is. absurd cc)

-- what stands can be written
entry_proper : (i : ℕ) (x : FlowEntry) (bytes : List ℕ) → Stand i (entry_slots x) bytes → IsProperEntry x
unfolding Stand entry_slots
entry_proper i x bytes h = actions_proper _ x.actions bytes (behind_match (i + 2 + 1 + 1) x.flow (after_match x) bytes h.1.1).1.1.1.1.1.1.1.1

pub entries_proper : (i : ℕ) (xs : List FlowEntry) (bytes : List ℕ) → Stand i (flat_map entry_slots xs) bytes → AllByRecursion IsProperEntry xs
entries_proper i xs bytes h = items-proper entry_slots IsProperEntry entry_proper i xs bytes h
