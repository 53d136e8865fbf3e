-- Bytes that nothing refuses are a message.
use Rattle.std.proofs.Common.{◌≡◌, ℕ, ◌+◌, ◌-◌, ◌*◌, ◌/◌, ◌%◌, ◌≤◌, List, ◌++◌, length, true, eqb, leb, Option, Some, None, refl, sym, inl, inr, arith}
use Rattle.std.proofs.lemmas.Bool.{cases_lt, eqb-true, leb-true, and_parts}
use Rattle.std.specs.List.{flat_map}
use Rattle.of10_wire.specs.declared.refusal.WireRefusal.{WireRefusal}
use Rattle.of10_wire.specs.declared.refusal.WireWhy.TheVariants.{BadLength}
use Rattle.of10_wire.specs.Refusals.{refusal}
use Rattle.of10_wire.specs.Layout.{width, number, part, Stand}
use Rattle.of10_wire.specs.Parts.{match_slots, port_slots}
use Rattle.of10_wire.specs.Actions.{action_slots, RefusesAction}
use Rattle.of10_wire.proofs.Standing.{bytes_from, length-bytes_from, rest-stands, width-append, Stand-append, Stand-at}
use Rattle.of10_wire.proofs.Items.{part-whole}
use Rattle.of10_wire.proofs.Widths.{fixed-found}
use Rattle.of10_wire.proofs.Listed as listed
use Rattle.of10_wire.proofs.Tests.{each_below}
use Rattle.of10_wire.proofs.PartLaws.{match_there, port_there, width-match, width-port, with_match, port_fixed}
use Rattle.of10_wire.proofs.ActionLaws.{action_item}
use Rattle.of10_stats.specs.Queues.{queue_slots, RefusesQueue}
use Rattle.of10_stats.proofs.RequestLaws.{RequestOrRefusal, request_found}
use Rattle.of10_stats.proofs.ReplyLaws.{ReplyOrRefusal, reply_found}
use Rattle.of10_stats.proofs.QueueLaws.{queue_item}
use Rattle.of10_msgs.specs.declared.message.Message.TheVariants.{Hello, Error, EchoRequest, EchoReply, Vendor, FeaturesRequest, FeaturesReply, GetConfigRequest, GetConfigReply, SetConfig, PacketIn, FlowRemoved, PortStatus, PacketOut, FlowMod, PortMod, StatsRequest, StatsReply, BarrierRequest, BarrierReply, QueueGetConfigRequest, QueueGetConfigReply}
use Rattle.of10_msgs.specs.Messages.{message_slots, rest}
use Rattle.of10_msgs.specs.Lengths.{allows_length}
use Rattle.of10_msgs.specs.Refused.{IsTypedFrame, early, actions_len, Late}
use Rattle.of10_msgs.specs.Readings.{Reading, Spelled, Refused, Reads}
use Rattle.of10_msgs.proofs.Frames.{frame_of, early_of, allowed, opens}
use Rattle.of10_msgs.proofs.Spelled.{behind_flow_removed, behind_flow_mod}

-- what the bytes are
abbrev HasReading : List ℕ → Type 0
HasReading bytes = (reading : Reading) × Reads bytes reading

-- a body that is refused
late : (bytes : List ℕ) → IsTypedFrame bytes → (e : WireRefusal) → Late bytes e → HasReading bytes
late bytes f e h = (Refused e, rw (early_of bytes f) h)

-- ---- a message of each type

hello : (bytes : List ℕ) → IsTypedFrame bytes → number 1 1 bytes ≡ 0 → HasReading bytes
unfolding Stand message_slots
hello bytes f is =
    let len = length-bytes_from 8 bytes f.long in
    (Spelled (Hello (number 4 4 bytes) (number 1 0 bytes) (bytes_from 8 bytes)), record { stand = (refl, (is, (omega (arith, f.len, len), (refl, (rest-stands 8 bytes f.long, tt))))); whole = omega (arith, len) })

error : (bytes : List ℕ) → IsTypedFrame bytes → number 1 1 bytes ≡ 1 → HasReading bytes
unfolding Stand message_slots
error bytes f is =
    let o = opens 1 bytes f is refl in
    let long : 12 ≤ length bytes = leb-true 12 (length bytes) (allowed 1 bytes f is) in
    let len = length-bytes_from 12 bytes long in
    (Spelled (Error (number 4 4 bytes) (number 2 8 bytes) (number 2 10 bytes) (bytes_from 12 bytes)), record { stand = (o.version, (o.kind, (omega (arith, o.len, len), (refl, (refl, (refl, (rest-stands 12 bytes long, tt))))))); whole = omega (arith, len) })

echo_request : (bytes : List ℕ) → IsTypedFrame bytes → number 1 1 bytes ≡ 2 → HasReading bytes
unfolding Stand message_slots
echo_request bytes f is =
    let o = opens 2 bytes f is refl in
    let len = length-bytes_from 8 bytes f.long in
    (Spelled (EchoRequest (number 4 4 bytes) (bytes_from 8 bytes)), record { stand = (o.version, (o.kind, (omega (arith, o.len, len), (refl, (rest-stands 8 bytes f.long, tt))))); whole = omega (arith, len) })

echo_reply : (bytes : List ℕ) → IsTypedFrame bytes → number 1 1 bytes ≡ 3 → HasReading bytes
unfolding Stand message_slots
echo_reply bytes f is =
    let o = opens 3 bytes f is refl in
    let len = length-bytes_from 8 bytes f.long in
    (Spelled (EchoReply (number 4 4 bytes) (bytes_from 8 bytes)), record { stand = (o.version, (o.kind, (omega (arith, o.len, len), (refl, (rest-stands 8 bytes f.long, tt))))); whole = omega (arith, len) })

vendor : (bytes : List ℕ) → IsTypedFrame bytes → number 1 1 bytes ≡ 4 → HasReading bytes
unfolding Stand message_slots
vendor bytes f is =
    let o = opens 4 bytes f is refl in
    let long : 12 ≤ length bytes = leb-true 12 (length bytes) (allowed 4 bytes f is) in
    let len = length-bytes_from 12 bytes long in
    (Spelled (Vendor (number 4 4 bytes) (number 4 8 bytes) (bytes_from 12 bytes)), record { stand = (o.version, (o.kind, (omega (arith, o.len, len), (refl, (refl, (rest-stands 12 bytes long, tt)))))); whole = omega (arith, len) })

features_request : (bytes : List ℕ) → IsTypedFrame bytes → number 1 1 bytes ≡ 5 → HasReading bytes
unfolding Stand message_slots
features_request bytes f is =
    let o = opens 5 bytes f is refl in
    let long : length bytes ≡ 8 = eqb-true (length bytes) 8 (allowed 5 bytes f is) in
    (Spelled (FeaturesRequest (number 4 4 bytes)), record { stand = (o.version, (o.kind, (omega (arith, o.len, long), (refl, tt)))); whole = omega (arith, long) })

whole_ports : (n : ℕ) → allows_length 6 n ≡ true → (32 ≤ n) × (48 * ((n - 32) / 48) ≡ n - 32)
whole_ports n h =
    let both = and_parts (leb 32 n) (eqb ((n - 32) % 48) 0) h in
    let rem : (n - 32) % 48 ≡ 0 = eqb-true ((n - 32) % 48) 0 both.1 in
    (leb-true 32 n both.0, omega (arith, rem))

features_reply : (bytes : List ℕ) → IsTypedFrame bytes → number 1 1 bytes ≡ 6 → HasReading bytes
unfolding Stand message_slots
features_reply bytes f is =
    let o = opens 6 bytes f is refl in
    let whole = whole_ports (length bytes) (allowed 6 bytes f is) in
    let has = fixed-found port_slots 48 port_fixed ((length bytes - 32) / 48) 32 bytes in
    let wide : 32 + width (flat_map port_slots has.list) ≡ length bytes = omega (arith, has.wide, whole.0, whole.1) in
    (Spelled (FeaturesReply (number 4 4 bytes) (number 8 8 bytes) (number 4 16 bytes) (number 1 20 bytes) (number 4 24 bytes) (number 4 28 bytes) has.list), record { stand = (o.version, (o.kind, (omega (arith, o.len, wide), (refl, (refl, (refl, (refl, (refl, (refl, has.stand))))))))); whole = omega (arith, wide) })

get_config_request : (bytes : List ℕ) → IsTypedFrame bytes → number 1 1 bytes ≡ 7 → HasReading bytes
unfolding Stand message_slots
get_config_request bytes f is =
    let o = opens 7 bytes f is refl in
    let long : length bytes ≡ 8 = eqb-true (length bytes) 8 (allowed 7 bytes f is) in
    (Spelled (GetConfigRequest (number 4 4 bytes)), record { stand = (o.version, (o.kind, (omega (arith, o.len, long), (refl, tt)))); whole = omega (arith, long) })

get_config_reply : (bytes : List ℕ) → IsTypedFrame bytes → number 1 1 bytes ≡ 8 → HasReading bytes
unfolding Stand message_slots
get_config_reply bytes f is =
    let o = opens 8 bytes f is refl in
    let long : length bytes ≡ 12 = eqb-true (length bytes) 12 (allowed 8 bytes f is) in
    (Spelled (GetConfigReply (number 4 4 bytes) (number 2 8 bytes) (number 2 10 bytes)), record { stand = (o.version, (o.kind, (omega (arith, o.len, long), (refl, (refl, (refl, tt)))))); whole = omega (arith, long) })

set_config : (bytes : List ℕ) → IsTypedFrame bytes → number 1 1 bytes ≡ 9 → HasReading bytes
unfolding Stand message_slots
set_config bytes f is =
    let o = opens 9 bytes f is refl in
    let long : length bytes ≡ 12 = eqb-true (length bytes) 12 (allowed 9 bytes f is) in
    (Spelled (SetConfig (number 4 4 bytes) (number 2 8 bytes) (number 2 10 bytes)), record { stand = (o.version, (o.kind, (omega (arith, o.len, long), (refl, (refl, (refl, tt)))))); whole = omega (arith, long) })

packet_in : (bytes : List ℕ) → IsTypedFrame bytes → number 1 1 bytes ≡ 10 → HasReading bytes
unfolding Stand message_slots
packet_in bytes f is =
    let o = opens 10 bytes f is refl in
    let long : 18 ≤ length bytes = leb-true 18 (length bytes) (allowed 10 bytes f is) in
    let len = length-bytes_from 18 bytes long in
    (Spelled (PacketIn (number 4 4 bytes) (number 4 8 bytes) (number 2 12 bytes) (number 2 14 bytes) (number 1 16 bytes) (bytes_from 18 bytes)), record { stand = (o.version, (o.kind, (omega (arith, o.len, len), (refl, (refl, (refl, (refl, (refl, (rest-stands 18 bytes long, tt))))))))); whole = omega (arith, len) })

flow_removed : (bytes : List ℕ) → IsTypedFrame bytes → number 1 1 bytes ≡ 11 → HasReading bytes
unfolding Stand message_slots
flow_removed bytes f is =
    let o = opens 11 bytes f is refl in
    let long : length bytes ≡ 88 = eqb-true (length bytes) 88 (allowed 11 bytes f is) in
    let flow = (match_there 8 bytes).0 in
    let wide = width-append (match_slots flow) (behind_flow_removed (number 8 48 bytes) (number 2 56 bytes) (number 1 58 bytes) (number 4 60 bytes) (number 4 64 bytes) (number 2 68 bytes) (number 8 72 bytes) (number 8 80 bytes)) in
    let both : Stand 8 (match_slots flow ++ (behind_flow_removed (number 8 48 bytes) (number 2 56 bytes) (number 1 58 bytes) (number 4 60 bytes) (number 4 64 bytes) (number 2 68 bytes) (number 8 72 bytes) (number 8 80 bytes))) bytes = with_match 8 flow (behind_flow_removed (number 8 48 bytes) (number 2 56 bytes) (number 1 58 bytes) (number 4 60 bytes) (number 4 64 bytes) (number 2 68 bytes) (number 8 72 bytes) (number 8 80 bytes)) bytes (match_there 8 bytes).1 (refl, (refl, (refl, (refl, (refl, (refl, (refl, (refl, tt)))))))) in
    (Spelled (FlowRemoved (number 4 4 bytes) flow (number 8 48 bytes) (number 2 56 bytes) (number 1 58 bytes) (number 4 60 bytes) (number 4 64 bytes) (number 2 68 bytes) (number 8 72 bytes) (number 8 80 bytes)), record { stand = (o.version, (o.kind, (omega (arith, o.len, long, wide, width-match flow), (refl, both)))); whole = omega (arith, long, wide, width-match flow) })

port_status : (bytes : List ℕ) → IsTypedFrame bytes → number 1 1 bytes ≡ 12 → HasReading bytes
unfolding Stand message_slots
port_status bytes f is =
    let o = opens 12 bytes f is refl in
    let long : length bytes ≡ 64 = eqb-true (length bytes) 64 (allowed 12 bytes f is) in
    (Spelled (PortStatus (number 4 4 bytes) (number 1 8 bytes) (port_there 16 bytes).0), record { stand = (o.version, (o.kind, (omega (arith, o.len, long, width-port (port_there 16 bytes).0), (refl, (refl, (port_there 16 bytes).1))))); whole = omega (arith, long, width-port (port_there 16 bytes).0) })

packet_out_list : (bytes : List ℕ) → IsTypedFrame bytes → number 1 1 bytes ≡ 13 → 16 + actions_len bytes ≤ length bytes → listed.ListOrRefusal action_slots RefusesAction 16 (part (actions_len bytes) 16 bytes) → HasReading bytes
unfolding Stand message_slots
packet_out_list bytes f is le (inr (e, r)) = late bytes f e (inl (is, inr (le, r)))
packet_out_list bytes f is le (inl (us, h)) =
    let o = opens 13 bytes f is refl in
    let there = part-whole 16 (actions_len bytes) (flat_map action_slots us) bytes le h in
    let len = length-bytes_from (16 + actions_len bytes) bytes le in
    let wide = width-append (flat_map action_slots us) (rest (bytes_from (16 + actions_len bytes) bytes)) in
    let tail : Stand (16 + width (flat_map action_slots us)) (rest (bytes_from (16 + actions_len bytes) bytes)) bytes = Stand-at (16 + actions_len bytes) (16 + width (flat_map action_slots us)) (rest (bytes_from (16 + actions_len bytes) bytes)) bytes (omega (arith, there.1)) (rest-stands (16 + actions_len bytes) bytes le, tt) in
    let both : Stand 16 (flat_map action_slots us ++ rest (bytes_from (16 + actions_len bytes) bytes)) bytes = Stand-append 16 (flat_map action_slots us) (rest (bytes_from (16 + actions_len bytes) bytes)) bytes there.0 tail in
    (Spelled (PacketOut (number 4 4 bytes) (number 4 8 bytes) (number 2 12 bytes) us (bytes_from (16 + actions_len bytes) bytes)), record { stand = (o.version, (o.kind, (omega (arith, o.len, len, wide, there.1), (refl, (refl, (refl, (sym there.1, both))))))); whole = omega (arith, len, wide, there.1) })

packet_out : (bytes : List ℕ) → IsTypedFrame bytes → number 1 1 bytes ≡ 13 → HasReading bytes
packet_out bytes f is = elim (cases_lt (length bytes) (16 + actions_len bytes)) [
  | inl short ↦ late bytes f (refusal 14 BadLength) (inl (is, inl (short, refl)))
  | inr le ↦ packet_out_list bytes f is le (listed.items-found action_slots RefusesAction action_item 16 (part (actions_len bytes) 16 bytes))
]

flow_mod_list : (bytes : List ℕ) → IsTypedFrame bytes → number 1 1 bytes ≡ 14 → 72 ≤ length bytes → listed.ListOrRefusal action_slots RefusesAction 72 (part (length bytes - 72) 72 bytes) → HasReading bytes
unfolding Stand message_slots
flow_mod_list bytes f is le (inr (e, r)) = late bytes f e (inr (inl (is, r)))
flow_mod_list bytes f is le (inl (us, h)) =
    let o = opens 14 bytes f is refl in
    let flow = (match_there 8 bytes).0 in
    let there = part-whole 72 (length bytes - 72) (flat_map action_slots us) bytes (omega (arith, le)) h in
    let wide = width-append (match_slots flow) (behind_flow_mod (number 8 48 bytes) (number 2 56 bytes) (number 2 58 bytes) (number 2 60 bytes) (number 2 62 bytes) (number 4 64 bytes) (number 2 68 bytes) (number 2 70 bytes) us) in
    let both : Stand 8 (match_slots flow ++ (behind_flow_mod (number 8 48 bytes) (number 2 56 bytes) (number 2 58 bytes) (number 2 60 bytes) (number 2 62 bytes) (number 4 64 bytes) (number 2 68 bytes) (number 2 70 bytes) us)) bytes = with_match 8 flow (behind_flow_mod (number 8 48 bytes) (number 2 56 bytes) (number 2 58 bytes) (number 2 60 bytes) (number 2 62 bytes) (number 4 64 bytes) (number 2 68 bytes) (number 2 70 bytes) us) bytes (match_there 8 bytes).1 (refl, (refl, (refl, (refl, (refl, (refl, (refl, (refl, there.0)))))))) in
    (Spelled (FlowMod (number 4 4 bytes) flow (number 8 48 bytes) (number 2 56 bytes) (number 2 58 bytes) (number 2 60 bytes) (number 2 62 bytes) (number 4 64 bytes) (number 2 68 bytes) (number 2 70 bytes) us), record { stand = (o.version, (o.kind, (omega (arith, o.len, le, wide, width-match flow, there.1), (refl, both)))); whole = omega (arith, le, wide, width-match flow, there.1) })

flow_mod : (bytes : List ℕ) → IsTypedFrame bytes → number 1 1 bytes ≡ 14 → HasReading bytes
flow_mod bytes f is = flow_mod_list bytes f is (leb-true 72 (length bytes) (allowed 14 bytes f is)) (listed.items-found action_slots RefusesAction action_item 72 (part (length bytes - 72) 72 bytes))

port_mod : (bytes : List ℕ) → IsTypedFrame bytes → number 1 1 bytes ≡ 15 → HasReading bytes
unfolding Stand message_slots
port_mod bytes f is =
    let o = opens 15 bytes f is refl in
    let long : length bytes ≡ 32 = eqb-true (length bytes) 32 (allowed 15 bytes f is) in
    (Spelled (PortMod (number 4 4 bytes) (number 2 8 bytes) (part 6 10 bytes) (number 4 16 bytes) (number 4 20 bytes) (number 4 24 bytes)), record { stand = (o.version, (o.kind, (omega (arith, o.len, long), (refl, (refl, (refl, (refl, (refl, (refl, tt))))))))); whole = omega (arith, long) })

stats_request_by : (bytes : List ℕ) → IsTypedFrame bytes → number 1 1 bytes ≡ 16 → RequestOrRefusal bytes → HasReading bytes
unfolding Stand message_slots
stats_request_by bytes f is (inr (e, r)) = late bytes f e (inr (inr (inl (is, r))))
stats_request_by bytes f is (inl (body, r)) =
    let o = opens 16 bytes f is refl in
    (Spelled (StatsRequest (number 4 4 bytes) (number 2 10 bytes) body), record { stand = (o.version, (o.kind, (omega (arith, o.len, r.whole), (refl, (r.kind, (refl, r.stand)))))); whole = omega (arith, r.whole) })

stats_request : (bytes : List ℕ) → IsTypedFrame bytes → number 1 1 bytes ≡ 16 → HasReading bytes
stats_request bytes f is = stats_request_by bytes f is (request_found bytes (leb-true 12 (length bytes) (allowed 16 bytes f is)))

stats_reply_by : (bytes : List ℕ) → IsTypedFrame bytes → number 1 1 bytes ≡ 17 → ReplyOrRefusal bytes → HasReading bytes
unfolding Stand message_slots
stats_reply_by bytes f is (inr (e, r)) = late bytes f e (inr (inr (inr (inl (is, r)))))
stats_reply_by bytes f is (inl (body, r)) =
    let o = opens 17 bytes f is refl in
    (Spelled (StatsReply (number 4 4 bytes) (number 2 10 bytes) body), record { stand = (o.version, (o.kind, (omega (arith, o.len, r.whole), (refl, (r.kind, (refl, r.stand)))))); whole = omega (arith, r.whole) })

stats_reply : (bytes : List ℕ) → IsTypedFrame bytes → number 1 1 bytes ≡ 17 → HasReading bytes
stats_reply bytes f is = stats_reply_by bytes f is (reply_found bytes (leb-true 12 (length bytes) (allowed 17 bytes f is)))

barrier_request : (bytes : List ℕ) → IsTypedFrame bytes → number 1 1 bytes ≡ 18 → HasReading bytes
unfolding Stand message_slots
barrier_request bytes f is =
    let o = opens 18 bytes f is refl in
    let long : length bytes ≡ 8 = eqb-true (length bytes) 8 (allowed 18 bytes f is) in
    (Spelled (BarrierRequest (number 4 4 bytes)), record { stand = (o.version, (o.kind, (omega (arith, o.len, long), (refl, tt)))); whole = omega (arith, long) })

barrier_reply : (bytes : List ℕ) → IsTypedFrame bytes → number 1 1 bytes ≡ 19 → HasReading bytes
unfolding Stand message_slots
barrier_reply bytes f is =
    let o = opens 19 bytes f is refl in
    let long : length bytes ≡ 8 = eqb-true (length bytes) 8 (allowed 19 bytes f is) in
    (Spelled (BarrierReply (number 4 4 bytes)), record { stand = (o.version, (o.kind, (omega (arith, o.len, long), (refl, tt)))); whole = omega (arith, long) })

queue_get_config_request : (bytes : List ℕ) → IsTypedFrame bytes → number 1 1 bytes ≡ 20 → HasReading bytes
unfolding Stand message_slots
queue_get_config_request bytes f is =
    let o = opens 20 bytes f is refl in
    let long : length bytes ≡ 12 = eqb-true (length bytes) 12 (allowed 20 bytes f is) in
    (Spelled (QueueGetConfigRequest (number 4 4 bytes) (number 2 8 bytes)), record { stand = (o.version, (o.kind, (omega (arith, o.len, long), (refl, (refl, tt))))); whole = omega (arith, long) })

queue_reply_list : (bytes : List ℕ) → IsTypedFrame bytes → number 1 1 bytes ≡ 21 → 16 ≤ length bytes → listed.ListOrRefusal queue_slots RefusesQueue 16 (part (length bytes - 16) 16 bytes) → HasReading bytes
unfolding Stand message_slots
queue_reply_list bytes f is le (inr (e, r)) = late bytes f e (inr (inr (inr (inr (is, r)))))
queue_reply_list bytes f is le (inl (qs, h)) =
    let o = opens 21 bytes f is refl in
    let there = part-whole 16 (length bytes - 16) (flat_map queue_slots qs) bytes (omega (arith, le)) h in
    (Spelled (QueueGetConfigReply (number 4 4 bytes) (number 2 8 bytes) qs), record { stand = (o.version, (o.kind, (omega (arith, o.len, le, there.1), (refl, (refl, there.0))))); whole = omega (arith, le, there.1) })

queue_get_config_reply : (bytes : List ℕ) → IsTypedFrame bytes → number 1 1 bytes ≡ 21 → HasReading bytes
queue_get_config_reply bytes f is = queue_reply_list bytes f is (leb-true 16 (length bytes) (allowed 21 bytes f is)) (listed.items-found queue_slots RefusesQueue queue_item 16 (part (length bytes - 16) 16 bytes))

-- ---- whatever the type

frame_found : (bytes : List ℕ) → IsTypedFrame bytes → HasReading bytes
frame_found bytes f = each_below (λ (kind : ℕ). number 1 1 bytes ≡ kind → HasReading bytes) 22 (
  hello bytes f,
  (error bytes f, (echo_request bytes f, (echo_reply bytes f, (vendor bytes f, (features_request bytes f, (features_reply bytes f, (get_config_request bytes f, (get_config_reply bytes f, (set_config bytes f, (packet_in bytes f, (flow_removed bytes f, (port_status bytes f, (packet_out bytes f, (flow_mod bytes f, (port_mod bytes f, (stats_request bytes f, (stats_reply bytes f, (barrier_request bytes f, (barrier_reply bytes f, (queue_get_config_request bytes f, (queue_get_config_reply bytes f, tt))))))))))))))))))))),
)
    (number 1 1 bytes) (omega (arith, leb-true (number 1 1 bytes) 21 f.known)) refl

refused_found : (bytes : List ℕ) (first : WireRefusal) → early bytes ≡ Some first → HasReading bytes
refused_found bytes first is = (Refused first, rw is refl)

pub found : (bytes : List ℕ) → HasReading bytes
found bytes = found_by bytes (early bytes) refl where
  found_by : (bytes : List ℕ) (first : Option WireRefusal) → early bytes ≡ first → HasReading bytes
  found_by bytes None is = frame_found bytes (frame_of bytes is)
  found_by bytes (Some first) is = refused_found bytes first is
