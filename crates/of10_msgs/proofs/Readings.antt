-- Exactly one message or one refusal, and what follows for an answer.
use Rattle.std.proofs.Common.{◌≡◌, ℕ, ◌-◌, ◌<◌, ◌^◌, ◌≤◌, max, ◌&&◌, eqb, List, length, Option, Some, None, Result, Ok, Err, refl, sym, ap, subst, ◌∙◌, inl, inr, ◌⊎◌, arith}
use Rattle.std.proofs.lemmas.Bool.{leb-true}
use Rattle.std.specs.Prelude.{IfOk, IfErr, IfSome, MatchOption}
use Rattle.of10_wire.specs.declared.refusal.WireRefusal.{WireRefusal}
use Rattle.of10_wire.specs.declared.refusal.WireWhy.TheVariants.{BadLength}
use Rattle.of10_wire.specs.Layout.{number}
use Rattle.of10_wire.specs.Refusals.{refusal, IsOfBytes, Answers, out_of_memory}
use Rattle.of10_wire.specs.declared.rules.Opening.{Opening}
use Rattle.of10_wire.specs.declared.rules.Opening.TheVariants as opening
use Rattle.of10_wire.specs.declared.rules.Opening.TheVariants.{Wants, Frame}
use Rattle.of10_wire.specs.Headers.{opening_of}
use Rattle.of10_wire.proofs.Openings.{refused_near}
use Rattle.of10_msgs.specs.declared.message.Message.{Message}
use Rattle.of10_msgs.specs.Messages.{spells}
use Rattle.of10_msgs.specs.Lengths.{allows_length}
use Rattle.of10_msgs.specs.Refused.{IsTypedFrame, early, early_by, actions_len, Late, LatePacketOut, LateFlowMod, LateQueueReply, Refuses}
use Rattle.of10_msgs.specs.Sending.{IsSendable}
use Rattle.of10_msgs.specs.Readings.{Reading, Spelled, Refused, Reads, HasOneReading}
use Rattle.of10_wire.specs.Layout.{part}
use Rattle.of10_wire.specs.Actions.{action_slots, RefusesAction}
use Rattle.of10_wire.proofs.Standing.{length-part}
use Rattle.of10_wire.proofs.Listed.{items-refused-once, items-refused-within}
use Rattle.of10_wire.proofs.ActionLaws.{action_item}
use Rattle.of10_msgs.proofs.Frames.{frame_of, allowed}
use Rattle.of10_wire.proofs.Tests.{refusal_is, unless-near}
use Rattle.of10_stats.specs.Requests.{request_refusal}
use Rattle.of10_stats.specs.Queues.{queue_slots, RefusesQueue}
use Rattle.of10_stats.proofs.RequestLaws.{request-within}
use Rattle.of10_stats.proofs.ReplyLaws.{reply-refused-once, reply-within}
use Rattle.of10_stats.proofs.QueueLaws.{queue_item}
use Rattle.of10_msgs.proofs.Spelled.{message-once}
use Rattle.of10_msgs.proofs.Accepted.{not-refused, late_packet_out, late_flow_mod, late_stats_request, late_stats_reply, late_queue_reply, sendable}
use Rattle.of10_msgs.proofs.Found.{found}

-- ---- one refusal

packet_out-once : (bytes : List ℕ) (d e : WireRefusal) → LatePacketOut bytes d → LatePacketOut bytes e → d ≡ e
packet_out-once bytes d e (inl x) (inl y) = x.1 ∙ sym y.1
packet_out-once bytes d e (inl x) (inr y) = absurd (omega (arith, x.0, y.0))
packet_out-once bytes d e (inr x) (inl y) = absurd (omega (arith, x.0, y.0))
packet_out-once bytes d e (inr x) (inr y) = items-refused-once action_slots RefusesAction action_item 16 (part (actions_len bytes) 16 bytes) d e x.1 y.1

flow_mod-once : (bytes : List ℕ) (d e : WireRefusal) → LateFlowMod bytes d → LateFlowMod bytes e → d ≡ e
flow_mod-once bytes d e x y = items-refused-once action_slots RefusesAction action_item 72 (part (length bytes - 72) 72 bytes) d e x y

request-refused-once : (bytes : List ℕ) (d e : WireRefusal) → request_refusal bytes ≡ Some d → request_refusal bytes ≡ Some e → d ≡ e
request-refused-once bytes d e x y = let same : Some d ≡ Some e = sym x ∙ y in cc

late-once : (bytes : List ℕ) (d e : WireRefusal) → Late bytes d → Late bytes e → d ≡ e
late-once bytes d e (inl x) k = packet_out-once bytes d e x.1 (late_packet_out bytes e x.0 k)
late-once bytes d e (inr (inl x)) k = flow_mod-once bytes d e x.1 (late_flow_mod bytes e x.0 k)
late-once bytes d e (inr (inr (inl x))) k = request-refused-once bytes d e x.1 (late_stats_request bytes e x.0 k)
late-once bytes d e (inr (inr (inr (inl x)))) k = reply-refused-once bytes d e x.1 (late_stats_reply bytes e x.0 k)
late-once bytes d e (inr (inr (inr (inr x)))) k = items-refused-once queue_slots RefusesQueue queue_item 16 (part (length bytes - 16) 16 bytes) d e x.1 (late_queue_reply bytes e x.0 k)

refusal-once_by : (bytes : List ℕ) (first : Option WireRefusal) (d e : WireRefusal) → early bytes ≡ first → Refuses bytes d → Refuses bytes e → d ≡ e
refusal-once_by bytes None d e is h k = late-once bytes d e (rw is at h) (rw is at k)
refusal-once_by bytes (Some first) d e is h k =
    let p : d ≡ first = rw is at h in
    let q : e ≡ first = rw is at k in
    p ∙ sym q

pub refusal-once : (bytes : List ℕ) (d e : WireRefusal) → Refuses bytes d → Refuses bytes e → d ≡ e
refusal-once bytes d e h k = refusal-once_by bytes (early bytes) d e refl h k

-- ---- one reading

pub reading-once : (bytes : List ℕ) (x y : Reading) → Reads bytes x → Reads bytes y → x ≡ y
reading-once bytes (Spelled m) (Spelled n) h k = ap (λ (m : Message). Spelled m) (message-once m n bytes h k)
reading-once bytes (Spelled m) (Refused e) h k = absurd (not-refused m bytes e h k)
reading-once bytes (Refused e) (Spelled m) h k = absurd (not-refused m bytes e k h)
reading-once bytes (Refused d) (Refused e) h k = ap (λ (e : WireRefusal). Refused e) (refusal-once bytes d e h k)

pub one-reading : (bytes : List ℕ) → HasOneReading bytes
one-reading bytes = record { reading = (found bytes).0; reads = (found bytes).1; only = λ other reads. reading-once bytes other (found bytes).0 reads (found bytes).1 }

-- ---- what the one clause of a reader says

pub answer-only : (bytes : List ℕ) (r : Result Message WireRefusal) → Answers r (λ m. spells m bytes) (Refuses bytes) → (m : Message) → spells m bytes → (r ≡ Ok m) ⊎ (r ≡ Err out_of_memory)
answer-only bytes (Ok x) a m h = inl (ap (λ (y : Message). Ok y) (message-once x m bytes a h))
answer-only bytes (Err e) (inl memory) m h = inr (ap (λ (y : WireRefusal). Err y) memory)
answer-only bytes (Err e) (inr refused) m h = absurd (not-refused m bytes e h refused)

-- ---- where a refusal stands

early_told : (bytes : List ℕ) (o : Opening) → opening_of bytes ≡ o → IfSome (early_by o bytes) (IsOfBytes 2)
early_told bytes (Wants n) is = record { near = omega arith; named = λ is. absurd cc }
early_told bytes (opening.Refused e) is = (refused_near bytes e is).0
early_told bytes (Frame n) is = unless-near 2 (eqb n (length bytes) && allows_length (number 1 1 bytes) n) (refusal 2 BadLength) (record { near = omega arith; named = λ is. absurd cc })

early-place : (bytes : List ℕ) → IfSome (early bytes) (IsOfBytes 2)
unfolding early
early-place bytes = early_told bytes (opening_of bytes) refl

packet_out-place : (bytes : List ℕ) (e : WireRefusal) → 16 ≤ length bytes → LatePacketOut bytes e → IsOfBytes (length bytes) e
packet_out-place bytes e long (inl x) = refusal_is 14 (length bytes) BadLength e (omega (arith, long)) (λ is. absurd cc) x.1
packet_out-place bytes e long (inr x) =
    let told = items-refused-within action_slots RefusesAction action_item 16 (part (actions_len bytes) 16 bytes) e x.1 in
    record { near = omega (arith, told.near, length-part (actions_len bytes) 16 bytes x.0, x.0); named = told.named }

flow_mod-place : (bytes : List ℕ) (e : WireRefusal) → 72 ≤ length bytes → LateFlowMod bytes e → IsOfBytes (length bytes) e
flow_mod-place bytes e long x =
    let told = items-refused-within action_slots RefusesAction action_item 72 (part (length bytes - 72) 72 bytes) e x in
    record { near = omega (arith, told.near, length-part (length bytes - 72) 72 bytes (omega (arith, long)), long); named = told.named }

queue_reply-place : (bytes : List ℕ) (e : WireRefusal) → 16 ≤ length bytes → LateQueueReply bytes e → IsOfBytes (length bytes) e
queue_reply-place bytes e long x =
    let told = items-refused-within queue_slots RefusesQueue queue_item 16 (part (length bytes - 16) 16 bytes) e x in
    record { near = omega (arith, told.near, length-part (length bytes - 16) 16 bytes (omega (arith, long)), long); named = told.named }

late-place : (bytes : List ℕ) (e : WireRefusal) → IsTypedFrame bytes → Late bytes e → IsOfBytes (length bytes) e
late-place bytes e f (inl x) = packet_out-place bytes e (leb-true 16 (length bytes) (allowed 13 bytes f x.0)) x.1
late-place bytes e f (inr (inl x)) = flow_mod-place bytes e (leb-true 72 (length bytes) (allowed 14 bytes f x.0)) x.1
late-place bytes e f (inr (inr (inl x))) =
    let told = request-within bytes e x.1 in
    record { near = omega (arith, told.near, leb-true 12 (length bytes) (allowed 16 bytes f x.0)); named = told.named }
late-place bytes e f (inr (inr (inr (inl x)))) = reply-within bytes e (leb-true 12 (length bytes) (allowed 17 bytes f x.0)) x.1
late-place bytes e f (inr (inr (inr (inr x)))) = queue_reply-place bytes e (leb-true 16 (length bytes) (allowed 21 bytes f x.0)) x.1

refused-place_by : (bytes : List ℕ) (first : Option WireRefusal) (e : WireRefusal) → early bytes ≡ first → IfSome first (IsOfBytes 2) → MatchOption first (Late bytes e) (λ d. e ≡ d) → IsOfBytes (max 2 (length bytes)) e
refused-place_by bytes None e is low h =
    let told = late-place bytes e (frame_of bytes is) h in
    record { near = omega (arith, told.near); named = told.named }
refused-place_by bytes (Some first) e is low h = subst (IsOfBytes (max 2 (length bytes))) (sym h) (record { near = omega (arith, low.near); named = low.named })

pub refused-place : (bytes : List ℕ) (e : WireRefusal) → Refuses bytes e → IsOfBytes (max 2 (length bytes)) e
refused-place bytes e h = refused-place_by bytes (early bytes) e refl (early-place bytes) h

pub answer-place : (bytes : List ℕ) (r : Result Message WireRefusal) → Answers r (λ m. spells m bytes) (Refuses bytes) → IfErr r (λ e. e.at ≤ max 2 (length bytes))
answer-place bytes (Ok x) a = tt
answer-place bytes (Err e) (inl memory) = omega (arith, ap (λ (d : WireRefusal). d.at) memory)
answer-place bytes (Err e) (inr refused) = (refused-place bytes e refused).near

pub answer-sendable : (bytes : List ℕ) (r : Result Message WireRefusal) → Answers r (λ m. spells m bytes) (Refuses bytes) → IfOk r (λ m. length bytes < 2 ^ 16) → IfOk r (λ m. IsSendable m)
answer-sendable bytes (Ok m) a short = sendable m bytes a short
answer-sendable bytes (Err e) a short = tt
