-- What is spelled is not refused.
use Rattle.std.proofs.Common.{◌≡◌, ℕ, ◌+◌, ◌-◌, ◌*◌, ◌%◌, ◌<◌, ◌^◌, List, length, true, false, not, ◌&&◌, eqb, leb, Some, None, refl, sym, inl, inr, arith}
use Rattle.std.proofs.lemmas.Bool.{eq-eqb, le-leb}
use Rattle.std.specs.List.{flat_map, AllByRecursion}
use Rattle.of10_wire.specs.declared.types.FlowMatch.{FlowMatch}
use Rattle.of10_wire.specs.declared.action.Action.{Action}
use Rattle.of10_wire.specs.declared.refusal.WireRefusal.{WireRefusal}
use Rattle.of10_wire.specs.Layout.{width, number, Stand}
use Rattle.of10_wire.specs.declared.rules.Opening.TheVariants.{Frame}
use Rattle.of10_wire.specs.Headers.{is_kind, opening_of}
use Rattle.of10_wire.specs.Parts.{match_slots, port_slots}
use Rattle.of10_wire.specs.Actions.{action_slots, RefusesAction, IsProper}
use Rattle.of10_wire.proofs.Standing.{width-append, Stand-front}
use Rattle.of10_wire.proofs.Widths.{width-fixed}
use Rattle.of10_wire.proofs.Listed.{items-accepted}
use Rattle.of10_wire.proofs.PartLaws.{width-match, width-port, behind_match, port_fixed}
use Rattle.of10_wire.proofs.ActionLaws.{action_item, actions_proper}
use Rattle.of10_wire.proofs.Tests.{apart}
use Rattle.of10_stats.specs.declared.request.StatsRequest as requested
use Rattle.of10_stats.specs.declared.reply.StatsReply as replied
use Rattle.of10_stats.specs.declared.queue.Queue.{Queue}
use Rattle.of10_stats.specs.Requests.{request_refusal}
use Rattle.of10_stats.specs.Replies.{RefusesReply}
use Rattle.of10_stats.specs.Queues.{queue_slots, RefusesQueue, IsProperQueue}
use Rattle.of10_stats.proofs.RequestLaws.{request-kept}
use Rattle.of10_stats.proofs.ReplyLaws.{reply-kept, reply_proper}
use Rattle.of10_stats.proofs.QueueLaws.{queue_item, queues_proper}
use Rattle.of10_msgs.specs.declared.message.Message.{Message}
use Rattle.of10_msgs.specs.declared.message.Message.TheVariants.{Hello, Error, EchoRequest, EchoReply, Vendor, FeaturesRequest, FeaturesReply, GetConfigRequest, GetConfigReply, SetConfig, PacketIn, FlowRemoved, PortStatus, PacketOut, FlowMod, PortMod, StatsRequest, StatsReply, BarrierRequest, BarrierReply, QueueGetConfigRequest, QueueGetConfigReply}
use Rattle.of10_msgs.specs.Messages.{message_slots, spells, rest, version_of, kind_of, xid_of, fields_of}
use Rattle.of10_msgs.specs.Lengths.{allows_length}
use Rattle.of10_msgs.specs.Refused.{IsTypedFrame, actions_len, early, Late, LatePacketOut, LateFlowMod, LateQueueReply, Refuses}
use Rattle.of10_msgs.specs.Sending.{IsProperMessage, IsSendable}
use Rattle.of10_msgs.proofs.Frames.{early_of, frame_opens, version_zero, spelled_frame}
use Rattle.of10_msgs.proofs.Spelled.{kind_stands, request_in, reply_in, behind_flow_removed, behind_flow_mod}

-- ---- the header and the length

whole_ports : (k n : ℕ) → n ≡ 32 + 48 * k → allows_length 6 n ≡ true
whole_ports k n e =
    let long : leb 32 n ≡ true = le-leb 32 n (omega arith) in
    let rem : (n - 32) % 48 ≡ 0 = omega arith in
    rw (long, rem) refl

-- the length of each layout is allowed
length_allowed : (m : Message) → allows_length (kind_of m) (8 + width (fields_of m)) ≡ true
length_allowed (Hello a1 a2 a3) = le-leb 8 (8 + width (fields_of (Hello a1 a2 a3))) (omega arith)
length_allowed (Error a1 a2 a3 a4) = le-leb 12 (8 + width (fields_of (Error a1 a2 a3 a4))) (omega arith)
length_allowed (EchoRequest a1 a2) = le-leb 8 (8 + width (fields_of (EchoRequest a1 a2))) (omega arith)
length_allowed (EchoReply a1 a2) = le-leb 8 (8 + width (fields_of (EchoReply a1 a2))) (omega arith)
length_allowed (Vendor a1 a2 a3) = le-leb 12 (8 + width (fields_of (Vendor a1 a2 a3))) (omega arith)
length_allowed (FeaturesRequest a1) = refl
length_allowed (FeaturesReply a1 a2 a3 a4 a5 a6 a7) = whole_ports (length a7) (8 + width (fields_of (FeaturesReply a1 a2 a3 a4 a5 a6 a7))) (omega (arith, width-fixed port_slots 48 port_fixed a7))
length_allowed (GetConfigRequest a1) = refl
length_allowed (GetConfigReply a1 a2 a3) = refl
length_allowed (SetConfig a1 a2 a3) = refl
length_allowed (PacketIn a1 a2 a3 a4 a5 a6) = le-leb 18 (8 + width (fields_of (PacketIn a1 a2 a3 a4 a5 a6))) (omega arith)
length_allowed (FlowRemoved a1 a2 a3 a4 a5 a6 a7 a8 a9 a10) = eq-eqb (8 + width (fields_of (FlowRemoved a1 a2 a3 a4 a5 a6 a7 a8 a9 a10))) 88 (omega (arith, width-match a2, width-append (match_slots a2) (behind_flow_removed a3 a4 a5 a6 a7 a8 a9 a10)))
length_allowed (PortStatus a1 a2 a3) = eq-eqb (8 + width (fields_of (PortStatus a1 a2 a3))) 64 (omega (arith, width-port a3))
length_allowed (PacketOut a1 a2 a3 a4 a5) = le-leb 16 (8 + width (fields_of (PacketOut a1 a2 a3 a4 a5))) (omega arith)
length_allowed (FlowMod a1 a2 a3 a4 a5 a6 a7 a8 a9 a10 a11) = le-leb 72 (8 + width (fields_of (FlowMod a1 a2 a3 a4 a5 a6 a7 a8 a9 a10 a11))) (omega (arith, width-match a2, width-append (match_slots a2) (behind_flow_mod a3 a4 a5 a6 a7 a8 a9 a10 a11)))
length_allowed (PortMod a1 a2 a3 a4 a5 a6) = refl
length_allowed (StatsRequest a1 a2 a3) = le-leb 12 (8 + width (fields_of (StatsRequest a1 a2 a3))) (omega arith)
length_allowed (StatsReply a1 a2 a3) = le-leb 12 (8 + width (fields_of (StatsReply a1 a2 a3))) (omega arith)
length_allowed (BarrierRequest a1) = refl
length_allowed (BarrierReply a1) = refl
length_allowed (QueueGetConfigRequest a1 a2) = refl
length_allowed (QueueGetConfigReply a1 a2 a3) = le-leb 16 (8 + width (fields_of (QueueGetConfigReply a1 a2 a3))) (omega arith)

version_allowed : (m : Message) → (not (eqb (version_of m) 1) && not (eqb (kind_of m) 0)) ≡ false
version_allowed (Hello a1 a2 a3) = version_zero a2
version_allowed m = refl

kind_known : (m : Message) → is_kind (kind_of m) ≡ true
kind_known (Hello a1 a2 a3) = refl
kind_known m = refl

-- a spelling is a frame
pub spells-frame : (m : Message) (bytes : List ℕ) → spells m bytes → IsTypedFrame bytes
unfolding message_slots
spells-frame m bytes h =
    let len : 8 + width (fields_of m) ≡ length bytes = omega (arith, h.whole) in
    spelled_frame (version_of m) (kind_of m) (xid_of m) (fields_of m) bytes h (version_allowed m) (kind_known m) (rw (← len) (length_allowed m))

-- and the first that its bytes show
pub spelled-opens : (m : Message) (bytes : List ℕ) → spells m bytes → opening_of bytes ≡ Frame (length bytes)
spelled-opens m bytes h = frame_opens bytes (spells-frame m bytes h)

pub not-early : (m : Message) (bytes : List ℕ) → spells m bytes → early bytes ≡ None
not-early m bytes h = early_of bytes (spells-frame m bytes h)

-- ---- the body

-- another type than these has nothing to be refused in its body
other_kind : (kind : ℕ) (bytes : List ℕ) (e : WireRefusal) → number 1 1 bytes ≡ kind → eqb kind 13 ≡ false → eqb kind 14 ≡ false → eqb kind 16 ≡ false → eqb kind 17 ≡ false → eqb kind 21 ≡ false → Late bytes e → ⊥
other_kind kind bytes e is no13 no14 no16 no17 no21 (inl x) = apart (number 1 1 bytes) kind 13 is x.0 no13
other_kind kind bytes e is no13 no14 no16 no17 no21 (inr (inl x)) = apart (number 1 1 bytes) kind 14 is x.0 no14
other_kind kind bytes e is no13 no14 no16 no17 no21 (inr (inr (inl x))) = apart (number 1 1 bytes) kind 16 is x.0 no16
other_kind kind bytes e is no13 no14 no16 no17 no21 (inr (inr (inr (inl x)))) = apart (number 1 1 bytes) kind 17 is x.0 no17
other_kind kind bytes e is no13 no14 no16 no17 no21 (inr (inr (inr (inr x)))) = apart (number 1 1 bytes) kind 21 is x.0 no21

pub late_packet_out : (bytes : List ℕ) (e : WireRefusal) → number 1 1 bytes ≡ 13 → Late bytes e → LatePacketOut bytes e
late_packet_out bytes e is (inl x) = x.1
late_packet_out bytes e is (inr (inl x)) = absurd (apart (number 1 1 bytes) 13 14 is x.0 refl)
late_packet_out bytes e is (inr (inr (inl x))) = absurd (apart (number 1 1 bytes) 13 16 is x.0 refl)
late_packet_out bytes e is (inr (inr (inr (inl x)))) = absurd (apart (number 1 1 bytes) 13 17 is x.0 refl)
late_packet_out bytes e is (inr (inr (inr (inr x)))) = absurd (apart (number 1 1 bytes) 13 21 is x.0 refl)

pub late_flow_mod : (bytes : List ℕ) (e : WireRefusal) → number 1 1 bytes ≡ 14 → Late bytes e → LateFlowMod bytes e
late_flow_mod bytes e is (inl x) = absurd (apart (number 1 1 bytes) 14 13 is x.0 refl)
late_flow_mod bytes e is (inr (inl x)) = x.1
late_flow_mod bytes e is (inr (inr (inl x))) = absurd (apart (number 1 1 bytes) 14 16 is x.0 refl)
late_flow_mod bytes e is (inr (inr (inr (inl x)))) = absurd (apart (number 1 1 bytes) 14 17 is x.0 refl)
late_flow_mod bytes e is (inr (inr (inr (inr x)))) = absurd (apart (number 1 1 bytes) 14 21 is x.0 refl)

pub late_stats_request : (bytes : List ℕ) (e : WireRefusal) → number 1 1 bytes ≡ 16 → Late bytes e → request_refusal bytes ≡ Some e
late_stats_request bytes e is (inl x) = absurd (apart (number 1 1 bytes) 16 13 is x.0 refl)
late_stats_request bytes e is (inr (inl x)) = absurd (apart (number 1 1 bytes) 16 14 is x.0 refl)
late_stats_request bytes e is (inr (inr (inl x))) = x.1
late_stats_request bytes e is (inr (inr (inr (inl x)))) = absurd (apart (number 1 1 bytes) 16 17 is x.0 refl)
late_stats_request bytes e is (inr (inr (inr (inr x)))) = absurd (apart (number 1 1 bytes) 16 21 is x.0 refl)

pub late_stats_reply : (bytes : List ℕ) (e : WireRefusal) → number 1 1 bytes ≡ 17 → Late bytes e → RefusesReply bytes e
late_stats_reply bytes e is (inl x) = absurd (apart (number 1 1 bytes) 17 13 is x.0 refl)
late_stats_reply bytes e is (inr (inl x)) = absurd (apart (number 1 1 bytes) 17 14 is x.0 refl)
late_stats_reply bytes e is (inr (inr (inl x))) = absurd (apart (number 1 1 bytes) 17 16 is x.0 refl)
late_stats_reply bytes e is (inr (inr (inr (inl x)))) = x.1
late_stats_reply bytes e is (inr (inr (inr (inr x)))) = absurd (apart (number 1 1 bytes) 17 21 is x.0 refl)

pub late_queue_reply : (bytes : List ℕ) (e : WireRefusal) → number 1 1 bytes ≡ 21 → Late bytes e → LateQueueReply bytes e
late_queue_reply bytes e is (inl x) = absurd (apart (number 1 1 bytes) 21 13 is x.0 refl)
late_queue_reply bytes e is (inr (inl x)) = absurd (apart (number 1 1 bytes) 21 14 is x.0 refl)
late_queue_reply bytes e is (inr (inr (inl x))) = absurd (apart (number 1 1 bytes) 21 16 is x.0 refl)
late_queue_reply bytes e is (inr (inr (inr (inl x)))) = absurd (apart (number 1 1 bytes) 21 17 is x.0 refl)
late_queue_reply bytes e is (inr (inr (inr (inr x)))) = x.1

packet_out-kept : (x b i : ℕ) (us : List Action) (v bytes : List ℕ) (e : WireRefusal) → spells (PacketOut x b i us v) bytes → LatePacketOut bytes e → ⊥
unfolding Stand message_slots
packet_out-kept x b i us v bytes e h (inl y) = absurd (omega (arith, h.whole, y.0, width-append (flat_map action_slots us) (rest v), h.stand.1.1.1.1.1.1.0))
packet_out-kept x b i us v bytes e h (inr y) =
    items-accepted action_slots RefusesAction action_item 16 16 (actions_len bytes) us bytes e (Stand-front 16 (flat_map action_slots us) (rest v) bytes h.stand.1.1.1.1.1.1.1) (sym h.stand.1.1.1.1.1.1.0) y.0 y.1

flow_mod-kept : (a1 : ℕ) (a2 : FlowMatch) (a3 a4 a5 a6 a7 a8 a9 a10 : ℕ) (us : List Action) (bytes : List ℕ) (e : WireRefusal) → spells (FlowMod a1 a2 a3 a4 a5 a6 a7 a8 a9 a10 us) bytes → LateFlowMod bytes e → ⊥
unfolding Stand message_slots
flow_mod-kept a1 a2 a3 a4 a5 a6 a7 a8 a9 a10 us bytes e h y =
    let wide = width-append (match_slots a2) (behind_flow_mod a3 a4 a5 a6 a7 a8 a9 a10 us) in
    let p : Stand 48 (behind_flow_mod a3 a4 a5 a6 a7 a8 a9 a10 us) bytes = behind_match 8 a2 (behind_flow_mod a3 a4 a5 a6 a7 a8 a9 a10 us) bytes h.stand.1.1.1.1 in
    items-accepted action_slots RefusesAction action_item 72 72 (length bytes - 72) us bytes e p.1.1.1.1.1.1.1.1 (omega (arith, h.whole, wide, width-match a2)) (omega (arith, h.whole, wide, width-match a2)) y

stats_request-kept : (x f : ℕ) (b : requested.StatsRequest) (bytes : List ℕ) (e : WireRefusal) → spells (StatsRequest x f b) bytes → request_refusal bytes ≡ Some e → ⊥
stats_request-kept x f b bytes e h r = request-kept b bytes e (request_in x f b bytes h) r

stats_reply-kept : (x f : ℕ) (b : replied.StatsReply) (bytes : List ℕ) (e : WireRefusal) → spells (StatsReply x f b) bytes → RefusesReply bytes e → ⊥
stats_reply-kept x f b bytes e h r = reply-kept b bytes e (reply_in x f b bytes h) r

queue_reply-kept : (x p : ℕ) (qs : List Queue) (bytes : List ℕ) (e : WireRefusal) → spells (QueueGetConfigReply x p qs) bytes → LateQueueReply bytes e → ⊥
unfolding Stand message_slots
queue_reply-kept x p qs bytes e h r =
    items-accepted queue_slots RefusesQueue queue_item 16 16 (length bytes - 16) qs bytes e h.stand.1.1.1.1.1 (omega (arith, h.whole)) (omega (arith, h.whole)) r

not-late : (m : Message) (bytes : List ℕ) (e : WireRefusal) → spells m bytes → Late bytes e → ⊥
not-late (PacketOut x b i us v) bytes e h l = packet_out-kept x b i us v bytes e h (late_packet_out bytes e (kind_stands (PacketOut x b i us v) bytes h) l)
not-late (FlowMod a1 a2 a3 a4 a5 a6 a7 a8 a9 a10 us) bytes e h l = flow_mod-kept a1 a2 a3 a4 a5 a6 a7 a8 a9 a10 us bytes e h (late_flow_mod bytes e (kind_stands (FlowMod a1 a2 a3 a4 a5 a6 a7 a8 a9 a10 us) bytes h) l)
not-late (StatsRequest x f b) bytes e h l = stats_request-kept x f b bytes e h (late_stats_request bytes e (kind_stands (StatsRequest x f b) bytes h) l)
not-late (StatsReply x f b) bytes e h l = stats_reply-kept x f b bytes e h (late_stats_reply bytes e (kind_stands (StatsReply x f b) bytes h) l)
not-late (QueueGetConfigReply x p qs) bytes e h l = queue_reply-kept x p qs bytes e h (late_queue_reply bytes e (kind_stands (QueueGetConfigReply x p qs) bytes h) l)
not-late m bytes e h l = other_kind (kind_of m) bytes e (kind_stands m bytes h) refl refl refl refl refl l

pub not-refused : (m : Message) (bytes : List ℕ) (e : WireRefusal) → spells m bytes → Refuses bytes e → ⊥
not-refused m bytes e h r =
    let none = not-early m bytes h in
    not-late m bytes e h (rw none at r)

-- ---- what is spelled can be sent

packet_out-proper : (x b i : ℕ) (us : List Action) (v bytes : List ℕ) → spells (PacketOut x b i us v) bytes → AllByRecursion IsProper us
unfolding Stand message_slots
packet_out-proper x b i us v bytes h = actions_proper 16 us bytes (Stand-front 16 (flat_map action_slots us) (rest v) bytes h.stand.1.1.1.1.1.1.1)

flow_mod-proper : (a1 : ℕ) (a2 : FlowMatch) (a3 a4 a5 a6 a7 a8 a9 a10 : ℕ) (us : List Action) (bytes : List ℕ) → spells (FlowMod a1 a2 a3 a4 a5 a6 a7 a8 a9 a10 us) bytes → AllByRecursion IsProper us
unfolding Stand message_slots
flow_mod-proper a1 a2 a3 a4 a5 a6 a7 a8 a9 a10 us bytes h =
    let p : Stand 48 (behind_flow_mod a3 a4 a5 a6 a7 a8 a9 a10 us) bytes = behind_match 8 a2 (behind_flow_mod a3 a4 a5 a6 a7 a8 a9 a10 us) bytes h.stand.1.1.1.1 in
    actions_proper 72 us bytes p.1.1.1.1.1.1.1.1

queue_reply-proper : (x p : ℕ) (qs : List Queue) (bytes : List ℕ) → spells (QueueGetConfigReply x p qs) bytes → AllByRecursion IsProperQueue qs
unfolding Stand message_slots
queue_reply-proper x p qs bytes h = queues_proper 16 qs bytes h.stand.1.1.1.1.1

proper : (m : Message) (bytes : List ℕ) → spells m bytes → IsProperMessage m
proper (PacketOut a1 a2 a3 a4 a5) bytes h = packet_out-proper a1 a2 a3 a4 a5 bytes h
proper (FlowMod a1 a2 a3 a4 a5 a6 a7 a8 a9 a10 a11) bytes h = flow_mod-proper a1 a2 a3 a4 a5 a6 a7 a8 a9 a10 a11 bytes h
proper (StatsReply x f b) bytes h = reply_proper b bytes (reply_in x f b bytes h)
proper (QueueGetConfigReply x p qs) bytes h = queue_reply-proper x p qs bytes h
proper m bytes h = tt

pub sendable : (m : Message) (bytes : List ℕ) → spells m bytes → length bytes < 2 ^ 16 → IsSendable m
sendable m bytes h short = record { short = omega (arith, h.whole, short); proper = proper m bytes h }
