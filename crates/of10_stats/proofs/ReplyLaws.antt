-- The laws of replies with statistics: of any bytes exactly one holds, that they hold one reply, or that one refusal
-- stands.
use Rattle.std.proofs.Common.{◌≡◌, ℕ, ◌+◌, ◌-◌, ◌/◌, ◌%◌, ◌≤◌, List, length, true, Option, Some, None, refl, sym, ap, ◌∙◌, inl, inr, ◌⊎◌, arith}
use Rattle.std.specs.Prelude.{IfSome}
use Rattle.std.proofs.lemmas.Bool.{eq-eqb, eqb-true, le-leb, leb-true}
use Rattle.std.specs.List.{flat_map}
use Rattle.of10_wire.specs.declared.refusal.WireRefusal.{WireRefusal}
use Rattle.of10_wire.specs.Refusals.{IsOfBytes}
use Rattle.of10_wire.specs.Layout.{width, number, part, Stand}
use Rattle.of10_wire.specs.Lists.{IsRefusedIn}
use Rattle.of10_wire.proofs.Standing.{length-part, bytes_from, length-bytes_from, rest-stands}
use Rattle.of10_wire.proofs.Tests.{apart}
use Rattle.of10_wire.proofs.Items.{part-whole}
use Rattle.of10_wire.proofs.Once.{items-once}
use Rattle.of10_wire.proofs.Widths.{width-fixed, fixed-found}
use Rattle.of10_wire.proofs.Listed as listed
use Rattle.of10_wire.proofs.Listed.{items-accepted, items-refused-once, items-refused-within, items-found}
use Rattle.of10_stats.specs.declared.counters.Table as counted
use Rattle.of10_stats.specs.declared.counters.PortCounters.{PortCounters}
use Rattle.of10_stats.specs.declared.counters.QueueCounters.{QueueCounters}
use Rattle.of10_stats.specs.declared.entry.FlowEntry.{FlowEntry}
use Rattle.of10_stats.specs.declared.reply.StatsReply.{StatsReply}
use Rattle.of10_stats.specs.declared.reply.StatsReply.TheVariants.{Desc, Flow, Aggregate, Table, Port, Queue, Vendor}
use Rattle.of10_stats.specs.Kinds.{is_stats_kind}
use Rattle.of10_stats.specs.Counters.{table_slots, port_counters_slots, queue_counters_slots}
use Rattle.of10_stats.specs.Entries.{entry_slots, RefusesEntry}
use Rattle.of10_stats.specs.Replies.{reply_kind, reply_slots, allows_reply, reply_refusal, IsReply, IsProperReply, RefusesReply}
use Rattle.of10_stats.proofs.KindLaws.{BegunBody, begun, allowed, by_kind, low_refusal}
use Rattle.of10_stats.proofs.CounterLaws.{table_fixed, port_counters_fixed, queue_counters_fixed}
use Rattle.of10_stats.proofs.EntryLaws.{entry_item, entries_proper}

-- ---- at most one

desc-once : (a1 a2 a3 a4 a5 b1 b2 b3 b4 b5 bytes : List ℕ) → IsReply bytes (Desc a1 a2 a3 a4 a5) → IsReply bytes (Desc b1 b2 b3 b4 b5) → Desc a1 a2 a3 a4 a5 ≡ Desc b1 b2 b3 b4 b5
unfolding Stand reply_slots
desc-once a1 a2 a3 a4 a5 b1 b2 b3 b4 b5 bytes h k = let p = h.stand in let q = k.stand in cc

flow-once : (a b : List FlowEntry) (bytes : List ℕ) → IsReply bytes (Flow a) → IsReply bytes (Flow b) → a ≡ b
unfolding reply_slots
flow-once a b bytes h k = items-once entry_slots entry_item.part 12 a b bytes h.stand k.stand (omega (arith, h.whole, k.whole))

aggregate-once : (a1 a2 a3 b1 b2 b3 : ℕ) (bytes : List ℕ) → IsReply bytes (Aggregate a1 a2 a3) → IsReply bytes (Aggregate b1 b2 b3) → Aggregate a1 a2 a3 ≡ Aggregate b1 b2 b3
unfolding Stand reply_slots
aggregate-once a1 a2 a3 b1 b2 b3 bytes h k = let p = h.stand in let q = k.stand in cc

table-once : (a b : List counted.Table) (bytes : List ℕ) → IsReply bytes (Table a) → IsReply bytes (Table b) → a ≡ b
unfolding reply_slots
table-once a b bytes h k = items-once table_slots table_fixed.part 12 a b bytes h.stand k.stand (omega (arith, h.whole, k.whole))

port-once : (a b : List PortCounters) (bytes : List ℕ) → IsReply bytes (Port a) → IsReply bytes (Port b) → a ≡ b
unfolding reply_slots
port-once a b bytes h k = items-once port_counters_slots port_counters_fixed.part 12 a b bytes h.stand k.stand (omega (arith, h.whole, k.whole))

queue-once : (a b : List QueueCounters) (bytes : List ℕ) → IsReply bytes (Queue a) → IsReply bytes (Queue b) → a ≡ b
unfolding reply_slots
queue-once a b bytes h k = items-once queue_counters_slots queue_counters_fixed.part 12 a b bytes h.stand k.stand (omega (arith, h.whole, k.whole))

vendor-once : (a c : ℕ) (b d bytes : List ℕ) → IsReply bytes (Vendor a b) → IsReply bytes (Vendor c d) → Vendor a b ≡ Vendor c d
unfolding Stand reply_slots
vendor-once a c b d bytes h k =
    let len : length b ≡ length d = omega (arith, h.whole, k.whole) in
    let p = h.stand in
    let q = k.stand in
    cc

pub reply-once : (x y : StatsReply) (bytes : List ℕ) → IsReply bytes x → IsReply bytes y → x ≡ y
reply-once (Desc a1 a2 a3 a4 a5) (Desc b1 b2 b3 b4 b5) bytes h k = desc-once a1 a2 a3 a4 a5 b1 b2 b3 b4 b5 bytes h k
reply-once (Desc a1 a2 a3 a4 a5) z bytes h k = absurd (apart (number 2 8 bytes) 0 (reply_kind z) h.kind k.kind refl)
reply-once (Flow a) (Flow b) bytes h k = ap (λ (l : List FlowEntry). Flow l) (flow-once a b bytes h k)
reply-once (Flow a) z bytes h k = absurd (apart (number 2 8 bytes) 1 (reply_kind z) h.kind k.kind refl)
reply-once (Aggregate a1 a2 a3) (Aggregate b1 b2 b3) bytes h k = aggregate-once a1 a2 a3 b1 b2 b3 bytes h k
reply-once (Aggregate a1 a2 a3) z bytes h k = absurd (apart (number 2 8 bytes) 2 (reply_kind z) h.kind k.kind refl)
reply-once (Table a) (Table b) bytes h k = ap (λ (l : List counted.Table). Table l) (table-once a b bytes h k)
reply-once (Table a) z bytes h k = absurd (apart (number 2 8 bytes) 3 (reply_kind z) h.kind k.kind refl)
reply-once (Port a) (Port b) bytes h k = ap (λ (l : List PortCounters). Port l) (port-once a b bytes h k)
reply-once (Port a) z bytes h k = absurd (apart (number 2 8 bytes) 4 (reply_kind z) h.kind k.kind refl)
reply-once (Queue a) (Queue b) bytes h k = ap (λ (l : List QueueCounters). Queue l) (queue-once a b bytes h k)
reply-once (Queue a) z bytes h k = absurd (apart (number 2 8 bytes) 5 (reply_kind z) h.kind k.kind refl)
reply-once (Vendor a b) (Vendor c d) bytes h k = vendor-once a c b d bytes h k
reply-once (Vendor a b) z bytes h k = absurd (apart (number 2 8 bytes) 65535 (reply_kind z) h.kind k.kind refl)

-- ---- what stands is not refused

kind_known : (x : StatsReply) → is_stats_kind (reply_kind x) ≡ true
kind_known (Desc a1 a2 a3 a4 a5) = refl
kind_known x = refl

length_allowed : (x : StatsReply) → allows_reply (reply_kind x) (width (reply_slots x)) ≡ true
unfolding reply_slots
length_allowed (Desc a1 a2 a3 a4 a5) = refl
length_allowed (Flow a) = refl
length_allowed (Aggregate a1 a2 a3) = refl
length_allowed (Table a) = eq-eqb (width (flat_map table_slots a) % 64) 0 (omega (arith, width-fixed table_slots 64 table_fixed a))
length_allowed (Port a) = eq-eqb (width (flat_map port_counters_slots a) % 104) 0 (omega (arith, width-fixed port_counters_slots 104 port_counters_fixed a))
length_allowed (Queue a) = eq-eqb (width (flat_map queue_counters_slots a) % 32) 0 (omega (arith, width-fixed queue_counters_slots 32 queue_counters_fixed a))
length_allowed (Vendor a b) = le-leb 4 (4 + (length b + 0)) (omega arith)

not_refused : (x : StatsReply) (bytes : List ℕ) → IsReply bytes x → reply_refusal bytes ≡ None
unfolding reply_refusal
not_refused x bytes h =
    let len : length bytes - 12 ≡ width (reply_slots x) = omega (arith, h.whole) in
    rw (h.kind, len, kind_known x, length_allowed x) refl

flow-kept : (a : List FlowEntry) (bytes : List ℕ) (e : WireRefusal) → IsReply bytes (Flow a) → IsRefusedIn entry_slots RefusesEntry 12 (part (length bytes - 12) 12 bytes) e → ⊥
unfolding reply_slots
flow-kept a bytes e h r = items-accepted entry_slots RefusesEntry entry_item 12 12 (length bytes - 12) a bytes e h.stand (omega (arith, h.whole)) (omega (arith, h.whole)) r

entries-kept : (x : StatsReply) (bytes : List ℕ) (e : WireRefusal) → IsReply bytes x → number 2 8 bytes ≡ 1 → IsRefusedIn entry_slots RefusesEntry 12 (part (length bytes - 12) 12 bytes) e → ⊥
entries-kept (Flow a) bytes e h is r = flow-kept a bytes e h r
entries-kept x bytes e h is r = apart (number 2 8 bytes) (reply_kind x) 1 h.kind is refl

pub reply-kept : (x : StatsReply) (bytes : List ℕ) (e : WireRefusal) → IsReply bytes x → RefusesReply bytes e → ⊥
reply-kept x bytes e h (inl r) = let same : None ≡ Some e = sym (not_refused x bytes h) ∙ r in absurd cc
reply-kept x bytes e h (inr r) = entries-kept x bytes e h r.0 r.1

-- ---- one refusal

-- nothing is asked of the length of flow entries
flow_passes : (bytes : List ℕ) → number 2 8 bytes ≡ 1 → reply_refusal bytes ≡ None
unfolding reply_refusal
flow_passes bytes is = rw is refl

not_both : (bytes : List ℕ) (d : WireRefusal) → reply_refusal bytes ≡ Some d → number 2 8 bytes ≡ 1 → ⊥
not_both bytes d h is = let same : None ≡ Some d = sym (flow_passes bytes is) ∙ h in absurd cc

pub reply-refused-once : (bytes : List ℕ) (d e : WireRefusal) → RefusesReply bytes d → RefusesReply bytes e → d ≡ e
reply-refused-once bytes d e (inl h) (inl k) = let same : Some d ≡ Some e = sym h ∙ k in cc
reply-refused-once bytes d e (inl h) (inr k) = absurd (not_both bytes d h k.0)
reply-refused-once bytes d e (inr h) (inl k) = absurd (not_both bytes e k h.0)
reply-refused-once bytes d e (inr h) (inr k) = items-refused-once entry_slots RefusesEntry entry_item 12 (part (length bytes - 12) 12 bytes) d e h.1 k.1

front : (bytes : List ℕ) → IfSome (reply_refusal bytes) (IsOfBytes 12)
unfolding reply_refusal
front bytes = low_refusal allows_reply bytes

pub reply-within : (bytes : List ℕ) (e : WireRefusal) → 12 ≤ length bytes → RefusesReply bytes e → IsOfBytes (length bytes) e
reply-within bytes e long (inl r) =
    let low = front bytes in
    let told : IsOfBytes 12 e = rw r at low in
    record { near = omega (arith, told.near, long); named = told.named }
reply-within bytes e long (inr r) =
    let told = items-refused-within entry_slots RefusesEntry entry_item 12 (part (length bytes - 12) 12 bytes) e r.1 in
    record { near = omega (arith, told.near, length-part (length bytes - 12) 12 bytes (omega (arith, long)), long); named = told.named }

-- what stands can be written
flow_proper : (a : List FlowEntry) (bytes : List ℕ) → IsReply bytes (Flow a) → IsProperReply (Flow a)
unfolding reply_slots
flow_proper a bytes h = entries_proper 12 a bytes h.stand

pub reply_proper : (x : StatsReply) (bytes : List ℕ) → IsReply bytes x → IsProperReply x
reply_proper (Flow a) bytes h = flow_proper a bytes h
reply_proper x bytes h = tt

-- ---- a reply or a refusal

abbrev pub ReplyOrRefusal : List ℕ → Type 0
ReplyOrRefusal bytes = ((x : StatsReply) × IsReply bytes x) ⊎ ((e : WireRefusal) × RefusesReply bytes e)

begun_by : (bytes : List ℕ) → 12 ≤ length bytes → reply_refusal bytes ≡ None → BegunBody allows_reply bytes
unfolding reply_refusal
begun_by bytes long h = begun allows_reply bytes long h

desc : (bytes : List ℕ) → BegunBody allows_reply bytes → number 2 8 bytes ≡ 0 → ReplyOrRefusal bytes
unfolding Stand reply_slots
desc bytes b is =
    let len = eqb-true (length bytes - 12) 1056 (allowed allows_reply 0 bytes b is) in
    inl (Desc (part 256 12 bytes) (part 256 268 bytes) (part 256 524 bytes) (part 32 780 bytes) (part 256 812 bytes), record { kind = is; stand = (refl, (refl, (refl, (refl, (refl, tt))))); whole = omega (arith, len, b.long) })

flow_list : (bytes : List ℕ) → BegunBody allows_reply bytes → number 2 8 bytes ≡ 1 → listed.ListOrRefusal entry_slots RefusesEntry 12 (part (length bytes - 12) 12 bytes) → ReplyOrRefusal bytes
unfolding reply_slots
flow_list bytes b is (inl (entries, h)) =
    let there = part-whole 12 (length bytes - 12) (flat_map entry_slots entries) bytes (omega (arith, b.long)) h in
    inl (Flow entries, record { kind = is; stand = there.0; whole = omega (arith, there.1, b.long) })
flow_list bytes b is (inr (e, r)) = inr (e, inr (is, r))

flow : (bytes : List ℕ) → BegunBody allows_reply bytes → number 2 8 bytes ≡ 1 → ReplyOrRefusal bytes
flow bytes b is = flow_list bytes b is (items-found entry_slots RefusesEntry entry_item 12 (part (length bytes - 12) 12 bytes))

aggregate : (bytes : List ℕ) → BegunBody allows_reply bytes → number 2 8 bytes ≡ 2 → ReplyOrRefusal bytes
unfolding Stand reply_slots
aggregate bytes b is =
    let len = eqb-true (length bytes - 12) 24 (allowed allows_reply 2 bytes b is) in
    inl (Aggregate (number 8 12 bytes) (number 8 20 bytes) (number 4 28 bytes), record { kind = is; stand = (refl, (refl, (refl, tt))); whole = omega (arith, len, b.long) })

table : (bytes : List ℕ) → BegunBody allows_reply bytes → number 2 8 bytes ≡ 3 → ReplyOrRefusal bytes
unfolding reply_slots
table bytes b is =
    let rem : (length bytes - 12) % 64 ≡ 0 = eqb-true ((length bytes - 12) % 64) 0 (allowed allows_reply 3 bytes b is) in
    let has = fixed-found table_slots 64 table_fixed ((length bytes - 12) / 64) 12 bytes in
    inl (Table has.list, record { kind = is; stand = has.stand; whole = omega (arith, has.wide, rem, b.long) })

port : (bytes : List ℕ) → BegunBody allows_reply bytes → number 2 8 bytes ≡ 4 → ReplyOrRefusal bytes
unfolding reply_slots
port bytes b is =
    let rem : (length bytes - 12) % 104 ≡ 0 = eqb-true ((length bytes - 12) % 104) 0 (allowed allows_reply 4 bytes b is) in
    let has = fixed-found port_counters_slots 104 port_counters_fixed ((length bytes - 12) / 104) 12 bytes in
    inl (Port has.list, record { kind = is; stand = has.stand; whole = omega (arith, has.wide, rem, b.long) })

queue : (bytes : List ℕ) → BegunBody allows_reply bytes → number 2 8 bytes ≡ 5 → ReplyOrRefusal bytes
unfolding reply_slots
queue bytes b is =
    let rem : (length bytes - 12) % 32 ≡ 0 = eqb-true ((length bytes - 12) % 32) 0 (allowed allows_reply 5 bytes b is) in
    let has = fixed-found queue_counters_slots 32 queue_counters_fixed ((length bytes - 12) / 32) 12 bytes in
    inl (Queue has.list, record { kind = is; stand = has.stand; whole = omega (arith, has.wide, rem, b.long) })

vendor : (bytes : List ℕ) → BegunBody allows_reply bytes → number 2 8 bytes ≡ 65535 → ReplyOrRefusal bytes
unfolding Stand reply_slots
vendor bytes b is =
    let long : 4 ≤ length bytes - 12 = leb-true 4 (length bytes - 12) (allowed allows_reply 65535 bytes b is) in
    let le : 16 ≤ length bytes = omega (arith, long, b.long) in
    let len = length-bytes_from 16 bytes le in
    inl (Vendor (number 4 12 bytes) (bytes_from 16 bytes), record { kind = is; stand = (refl, (rest-stands 16 bytes le, tt)); whole = omega (arith, len) })

kind_found : (bytes : List ℕ) → BegunBody allows_reply bytes → ReplyOrRefusal bytes
kind_found bytes b = by_kind (number 2 8 bytes) b.known (desc bytes b) (flow bytes b) (aggregate bytes b) (table bytes b) (port bytes b) (queue bytes b) (vendor bytes b)

pub reply_found : (bytes : List ℕ) → 12 ≤ length bytes → ReplyOrRefusal bytes
reply_found bytes long = found_by bytes long (reply_refusal bytes) refl where
  found_by : (bytes : List ℕ) → 12 ≤ length bytes → (first : Option WireRefusal) → reply_refusal bytes ≡ first → ReplyOrRefusal bytes
  found_by bytes long None is = kind_found bytes (begun_by bytes long is)
  found_by bytes long (Some e) is = inr (e, inl is)
