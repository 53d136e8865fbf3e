-- At most one message is spelled.
use Rattle.std.proofs.Common.{◌≡◌, ℕ, ◌+◌, List, [], ◌∷◌, length, refl, sym, ◌∙◌, arith}
use Rattle.std.specs.List.{flat_map}
use Rattle.of10_wire.specs.declared.types.FlowMatch.{FlowMatch}
use Rattle.of10_wire.specs.declared.types.PhyPort.{PhyPort}
use Rattle.of10_wire.specs.declared.action.Action.{Action}
use Rattle.of10_wire.specs.Layout.{Slot, Number, Pad, width, number, part, Stand, Spells}
use Rattle.of10_wire.specs.Parts.{match_slots, port_slots}
use Rattle.of10_wire.specs.Actions.{action_slots}
use Rattle.of10_wire.proofs.Standing.{Stand-front, Stand-back, width-append}
use Rattle.of10_wire.proofs.Tests.{apart}
use Rattle.of10_wire.proofs.Once.{items-once}
use Rattle.of10_wire.proofs.PartLaws.{match-once, width-match, behind_match, port_fixed}
use Rattle.of10_wire.proofs.ActionLaws.{action_part}
use Rattle.of10_stats.specs.declared.request.StatsRequest as requested
use Rattle.of10_stats.specs.declared.reply.StatsReply as replied
use Rattle.of10_stats.specs.declared.queue.Queue.{Queue}
use Rattle.of10_stats.specs.Requests.{IsRequest}
use Rattle.of10_stats.specs.Replies.{IsReply}
use Rattle.of10_stats.specs.Queues.{queue_slots}
use Rattle.of10_stats.proofs.RequestLaws.{request-once}
use Rattle.of10_stats.proofs.ReplyLaws.{reply-once}
use Rattle.of10_stats.proofs.QueueLaws.{queue_item}
use Rattle.of10_msgs.specs.declared.message.Message.{Message}
use Rattle.of10_msgs.specs.declared.message.Message.TheVariants.{Hello, Error, EchoRequest, EchoReply, Vendor, FeaturesRequest, FeaturesReply, GetConfigRequest, GetConfigReply, SetConfig, PacketIn, FlowRemoved, PortStatus, PacketOut, FlowMod, PortMod, StatsRequest, StatsReply, BarrierRequest, BarrierReply, QueueGetConfigRequest, QueueGetConfigReply}
use Rattle.of10_wire.specs.Headers.{frame}
use Rattle.of10_msgs.specs.Messages.{message_slots, spells, rest, kind_of}

pub kind_stands : (m : Message) (bytes : List ℕ) → spells m bytes → number 1 1 bytes ≡ kind_of m
unfolding Stand message_slots
kind_stands m bytes h = h.stand.1.0

-- what stands behind the match of a FLOW_REMOVED, and of a FLOW_MOD
abbrev pub behind_flow_removed : (cookie priority reason duration_sec duration_nsec idle_timeout packet_count byte_count : ℕ) → List Slot
behind_flow_removed cookie priority reason duration_sec duration_nsec idle_timeout packet_count byte_count =
    Number 8 cookie ∷ Number 2 priority ∷ Number 1 reason ∷ Pad 1 ∷ Number 4 duration_sec ∷ Number 4 duration_nsec ∷ Number 2 idle_timeout ∷ Pad 2 ∷ Number 8 packet_count ∷ Number 8 byte_count ∷ []

abbrev pub behind_flow_mod : (cookie command idle_timeout hard_timeout priority buffer_id out_port flags : ℕ) (actions : List Action) → List Slot
behind_flow_mod cookie command idle_timeout hard_timeout priority buffer_id out_port flags actions =
    Number 8 cookie ∷ Number 2 command ∷ Number 2 idle_timeout ∷ Number 2 hard_timeout ∷ Number 2 priority ∷ Number 4 buffer_id ∷ Number 2 out_port ∷ Number 2 flags ∷ flat_map action_slots actions

-- the statistics in a STATS_REQUEST, and in a STATS_REPLY
pub request_in : (xid flags : ℕ) (body : requested.StatsRequest) (bytes : List ℕ) → spells (StatsRequest xid flags body) bytes → IsRequest bytes body
unfolding Stand message_slots
request_in xid flags body bytes h = record { kind = h.stand.1.1.1.1.0; stand = h.stand.1.1.1.1.1.1; whole = omega (arith, h.whole) }

pub reply_in : (xid flags : ℕ) (body : replied.StatsReply) (bytes : List ℕ) → spells (StatsReply xid flags body) bytes → IsReply bytes body
unfolding Stand message_slots
reply_in xid flags body bytes h = record { kind = h.stand.1.1.1.1.0; stand = h.stand.1.1.1.1.1.1; whole = omega (arith, h.whole) }

-- a frame whose body is bytes
body-once : (v kind x w y : ℕ) (b c : List ℕ) (bytes : List ℕ) → Spells (frame v kind x (rest b)) bytes → Spells (frame w kind y (rest c)) bytes → (v ≡ w) × (x ≡ y) × (b ≡ c)
unfolding Stand
body-once v kind x w y b c bytes h k =
    let len : length b ≡ length c = omega (arith, h.whole, k.whole) in
    (cc, cc, cc)

hello-once : (a1 a2 : ℕ) (a3 : List ℕ) (b1 b2 : ℕ) (b3 : List ℕ) (bytes : List ℕ)
    → spells (Hello a1 a2 a3) bytes → spells (Hello b1 b2 b3) bytes → Hello a1 a2 a3 ≡ Hello b1 b2 b3
unfolding message_slots
hello-once a1 a2 a3 b1 b2 b3 bytes h k = let e = body-once a2 0 a1 b2 b1 a3 b3 bytes h k in cc

error-once : (a1 a2 a3 : ℕ) (a4 : List ℕ) (b1 b2 b3 : ℕ) (b4 : List ℕ) (bytes : List ℕ)
    → spells (Error a1 a2 a3 a4) bytes → spells (Error b1 b2 b3 b4) bytes → Error a1 a2 a3 a4 ≡ Error b1 b2 b3 b4
unfolding Stand message_slots
error-once a1 a2 a3 a4 b1 b2 b3 b4 bytes h k =
    let len : length a4 ≡ length b4 = omega (arith, h.whole, k.whole) in
    cc

echo_request-once : (a1 : ℕ) (a2 : List ℕ) (b1 : ℕ) (b2 : List ℕ) (bytes : List ℕ)
    → spells (EchoRequest a1 a2) bytes → spells (EchoRequest b1 b2) bytes → EchoRequest a1 a2 ≡ EchoRequest b1 b2
unfolding message_slots
echo_request-once a1 a2 b1 b2 bytes h k = let e = body-once 1 2 a1 1 b1 a2 b2 bytes h k in cc

echo_reply-once : (a1 : ℕ) (a2 : List ℕ) (b1 : ℕ) (b2 : List ℕ) (bytes : List ℕ)
    → spells (EchoReply a1 a2) bytes → spells (EchoReply b1 b2) bytes → EchoReply a1 a2 ≡ EchoReply b1 b2
unfolding message_slots
echo_reply-once a1 a2 b1 b2 bytes h k = let e = body-once 1 3 a1 1 b1 a2 b2 bytes h k in cc

vendor-once : (a1 a2 : ℕ) (a3 : List ℕ) (b1 b2 : ℕ) (b3 : List ℕ) (bytes : List ℕ)
    → spells (Vendor a1 a2 a3) bytes → spells (Vendor b1 b2 b3) bytes → Vendor a1 a2 a3 ≡ Vendor b1 b2 b3
unfolding Stand message_slots
vendor-once a1 a2 a3 b1 b2 b3 bytes h k =
    let len : length a3 ≡ length b3 = omega (arith, h.whole, k.whole) in
    cc

features_request-once : (a1 : ℕ) (b1 : ℕ) (bytes : List ℕ)
    → spells (FeaturesRequest a1) bytes → spells (FeaturesRequest b1) bytes → FeaturesRequest a1 ≡ FeaturesRequest b1
unfolding Stand message_slots
features_request-once a1 b1 bytes h k = cc

features_reply-once : (a1 a2 a3 a4 a5 a6 : ℕ) (a7 : List PhyPort) (b1 b2 b3 b4 b5 b6 : ℕ) (b7 : List PhyPort) (bytes : List ℕ)
    → spells (FeaturesReply a1 a2 a3 a4 a5 a6 a7) bytes → spells (FeaturesReply b1 b2 b3 b4 b5 b6 b7) bytes → FeaturesReply a1 a2 a3 a4 a5 a6 a7 ≡ FeaturesReply b1 b2 b3 b4 b5 b6 b7
unfolding Stand message_slots
features_reply-once a1 a2 a3 a4 a5 a6 a7 b1 b2 b3 b4 b5 b6 b7 bytes h k =
    let same : a7 ≡ b7 = items-once port_slots port_fixed.part 32 a7 b7 bytes h.stand.1.1.1.1.1.1.1.1.1 k.stand.1.1.1.1.1.1.1.1.1 (omega (arith, h.whole, k.whole)) in
    cc

get_config_request-once : (a1 : ℕ) (b1 : ℕ) (bytes : List ℕ)
    → spells (GetConfigRequest a1) bytes → spells (GetConfigRequest b1) bytes → GetConfigRequest a1 ≡ GetConfigRequest b1
unfolding Stand message_slots
get_config_request-once a1 b1 bytes h k = cc

get_config_reply-once : (a1 a2 a3 : ℕ) (b1 b2 b3 : ℕ) (bytes : List ℕ)
    → spells (GetConfigReply a1 a2 a3) bytes → spells (GetConfigReply b1 b2 b3) bytes → GetConfigReply a1 a2 a3 ≡ GetConfigReply b1 b2 b3
unfolding Stand message_slots
get_config_reply-once a1 a2 a3 b1 b2 b3 bytes h k = cc

set_config-once : (a1 a2 a3 : ℕ) (b1 b2 b3 : ℕ) (bytes : List ℕ)
    → spells (SetConfig a1 a2 a3) bytes → spells (SetConfig b1 b2 b3) bytes → SetConfig a1 a2 a3 ≡ SetConfig b1 b2 b3
unfolding Stand message_slots
set_config-once a1 a2 a3 b1 b2 b3 bytes h k = cc

packet_in-once : (a1 a2 a3 a4 a5 : ℕ) (a6 : List ℕ) (b1 b2 b3 b4 b5 : ℕ) (b6 : List ℕ) (bytes : List ℕ)
    → spells (PacketIn a1 a2 a3 a4 a5 a6) bytes → spells (PacketIn b1 b2 b3 b4 b5 b6) bytes → PacketIn a1 a2 a3 a4 a5 a6 ≡ PacketIn b1 b2 b3 b4 b5 b6
unfolding Stand message_slots
packet_in-once a1 a2 a3 a4 a5 a6 b1 b2 b3 b4 b5 b6 bytes h k =
    let len : length a6 ≡ length b6 = omega (arith, h.whole, k.whole) in
    cc

flow_removed-once : (a1 : ℕ) (a2 : FlowMatch) (a3 a4 a5 a6 a7 a8 a9 a10 : ℕ) (b1 : ℕ) (b2 : FlowMatch) (b3 b4 b5 b6 b7 b8 b9 b10 : ℕ) (bytes : List ℕ)
    → spells (FlowRemoved a1 a2 a3 a4 a5 a6 a7 a8 a9 a10) bytes → spells (FlowRemoved b1 b2 b3 b4 b5 b6 b7 b8 b9 b10) bytes → FlowRemoved a1 a2 a3 a4 a5 a6 a7 a8 a9 a10 ≡ FlowRemoved b1 b2 b3 b4 b5 b6 b7 b8 b9 b10
unfolding Stand message_slots
flow_removed-once a1 a2 a3 a4 a5 a6 a7 a8 a9 a10 b1 b2 b3 b4 b5 b6 b7 b8 b9 b10 bytes h k =
    let flow : a2 ≡ b2 = match-once 8 a2 b2 bytes (Stand-front 8 (match_slots a2) (behind_flow_removed a3 a4 a5 a6 a7 a8 a9 a10) bytes h.stand.1.1.1.1) (Stand-front 8 (match_slots b2) (behind_flow_removed b3 b4 b5 b6 b7 b8 b9 b10) bytes k.stand.1.1.1.1) in
    let p : Stand 48 (behind_flow_removed a3 a4 a5 a6 a7 a8 a9 a10) bytes = behind_match 8 a2 (behind_flow_removed a3 a4 a5 a6 a7 a8 a9 a10) bytes h.stand.1.1.1.1 in
    let q : Stand 48 (behind_flow_removed b3 b4 b5 b6 b7 b8 b9 b10) bytes = behind_match 8 b2 (behind_flow_removed b3 b4 b5 b6 b7 b8 b9 b10) bytes k.stand.1.1.1.1 in
    cc

port_status-once : (a1 a2 : ℕ) (a3 : PhyPort) (b1 b2 : ℕ) (b3 : PhyPort) (bytes : List ℕ)
    → spells (PortStatus a1 a2 a3) bytes → spells (PortStatus b1 b2 b3) bytes → PortStatus a1 a2 a3 ≡ PortStatus b1 b2 b3
unfolding Stand message_slots
port_status-once a1 a2 a3 b1 b2 b3 bytes h k =
    let same : a3 ≡ b3 = port_fixed.part.once 16 a3 b3 bytes h.stand.1.1.1.1.1 k.stand.1.1.1.1.1 in
    cc

packet_out-once : (a1 a2 a3 : ℕ) (a4 : List Action) (a5 : List ℕ) (b1 b2 b3 : ℕ) (b4 : List Action) (b5 : List ℕ) (bytes : List ℕ)
    → spells (PacketOut a1 a2 a3 a4 a5) bytes → spells (PacketOut b1 b2 b3 b4 b5) bytes → PacketOut a1 a2 a3 a4 a5 ≡ PacketOut b1 b2 b3 b4 b5
unfolding Stand message_slots
packet_out-once a1 a2 a3 a4 a5 b1 b2 b3 b4 b5 bytes h k =
    let wide : width (flat_map action_slots a4) ≡ width (flat_map action_slots b4) = sym h.stand.1.1.1.1.1.1.0 ∙ k.stand.1.1.1.1.1.1.0 in
    let front = h.stand.1.1.1.1.1.1.1 in
    let front-2 = k.stand.1.1.1.1.1.1.1 in
    let same : a4 ≡ b4 = items-once action_slots action_part 16 a4 b4 bytes (Stand-front 16 (flat_map action_slots a4) (rest a5) bytes front) (Stand-front 16 (flat_map action_slots b4) (rest b5) bytes front-2) wide in
    let len : length a5 ≡ length b5 = omega (arith, h.whole, k.whole, width-append (flat_map action_slots a4) (rest a5), width-append (flat_map action_slots b4) (rest b5)) in
    let back : part (length a5) (16 + width (flat_map action_slots a4)) bytes ≡ a5 = (Stand-back 16 (flat_map action_slots a4) (rest a5) bytes front).0 in
    let back-2 : part (length b5) (16 + width (flat_map action_slots b4)) bytes ≡ b5 = (Stand-back 16 (flat_map action_slots b4) (rest b5) bytes front-2).0 in
    cc

flow_mod-once : (a1 : ℕ) (a2 : FlowMatch) (a3 a4 a5 a6 a7 a8 a9 a10 : ℕ) (a11 : List Action) (b1 : ℕ) (b2 : FlowMatch) (b3 b4 b5 b6 b7 b8 b9 b10 : ℕ) (b11 : List Action) (bytes : List ℕ)
    → spells (FlowMod a1 a2 a3 a4 a5 a6 a7 a8 a9 a10 a11) bytes → spells (FlowMod b1 b2 b3 b4 b5 b6 b7 b8 b9 b10 b11) bytes → FlowMod a1 a2 a3 a4 a5 a6 a7 a8 a9 a10 a11 ≡ FlowMod b1 b2 b3 b4 b5 b6 b7 b8 b9 b10 b11
unfolding Stand message_slots
flow_mod-once a1 a2 a3 a4 a5 a6 a7 a8 a9 a10 a11 b1 b2 b3 b4 b5 b6 b7 b8 b9 b10 b11 bytes h k =
    let flow : a2 ≡ b2 = match-once 8 a2 b2 bytes (Stand-front 8 (match_slots a2) (behind_flow_mod a3 a4 a5 a6 a7 a8 a9 a10 a11) bytes h.stand.1.1.1.1) (Stand-front 8 (match_slots b2) (behind_flow_mod b3 b4 b5 b6 b7 b8 b9 b10 b11) bytes k.stand.1.1.1.1) in
    let p : Stand 48 (behind_flow_mod a3 a4 a5 a6 a7 a8 a9 a10 a11) bytes = behind_match 8 a2 (behind_flow_mod a3 a4 a5 a6 a7 a8 a9 a10 a11) bytes h.stand.1.1.1.1 in
    let q : Stand 48 (behind_flow_mod b3 b4 b5 b6 b7 b8 b9 b10 b11) bytes = behind_match 8 b2 (behind_flow_mod b3 b4 b5 b6 b7 b8 b9 b10 b11) bytes k.stand.1.1.1.1 in
    let wide : width (flat_map action_slots a11) ≡ width (flat_map action_slots b11) = omega (arith, h.whole, k.whole, width-match a2, width-match b2, width-append (match_slots a2) (behind_flow_mod a3 a4 a5 a6 a7 a8 a9 a10 a11), width-append (match_slots b2) (behind_flow_mod b3 b4 b5 b6 b7 b8 b9 b10 b11)) in
    let same : a11 ≡ b11 = items-once action_slots action_part 72 a11 b11 bytes p.1.1.1.1.1.1.1.1 q.1.1.1.1.1.1.1.1 wide in
    cc

port_mod-once : (a1 a2 : ℕ) (a3 : List ℕ) (a4 a5 a6 : ℕ) (b1 b2 : ℕ) (b3 : List ℕ) (b4 b5 b6 : ℕ) (bytes : List ℕ)
    → spells (PortMod a1 a2 a3 a4 a5 a6) bytes → spells (PortMod b1 b2 b3 b4 b5 b6) bytes → PortMod a1 a2 a3 a4 a5 a6 ≡ PortMod b1 b2 b3 b4 b5 b6
unfolding Stand message_slots
port_mod-once a1 a2 a3 a4 a5 a6 b1 b2 b3 b4 b5 b6 bytes h k = cc

stats_request-once : (a1 a2 : ℕ) (a3 : requested.StatsRequest) (b1 b2 : ℕ) (b3 : requested.StatsRequest) (bytes : List ℕ)
    → spells (StatsRequest a1 a2 a3) bytes → spells (StatsRequest b1 b2 b3) bytes → StatsRequest a1 a2 a3 ≡ StatsRequest b1 b2 b3
unfolding Stand message_slots
stats_request-once a1 a2 a3 b1 b2 b3 bytes h k =
    let same : a3 ≡ b3 = request-once a3 b3 bytes (request_in a1 a2 a3 bytes h) (request_in b1 b2 b3 bytes k) in
    cc

stats_reply-once : (a1 a2 : ℕ) (a3 : replied.StatsReply) (b1 b2 : ℕ) (b3 : replied.StatsReply) (bytes : List ℕ)
    → spells (StatsReply a1 a2 a3) bytes → spells (StatsReply b1 b2 b3) bytes → StatsReply a1 a2 a3 ≡ StatsReply b1 b2 b3
unfolding Stand message_slots
stats_reply-once a1 a2 a3 b1 b2 b3 bytes h k =
    let same : a3 ≡ b3 = reply-once a3 b3 bytes (reply_in a1 a2 a3 bytes h) (reply_in b1 b2 b3 bytes k) in
    cc

barrier_request-once : (a1 : ℕ) (b1 : ℕ) (bytes : List ℕ)
    → spells (BarrierRequest a1) bytes → spells (BarrierRequest b1) bytes → BarrierRequest a1 ≡ BarrierRequest b1
unfolding Stand message_slots
barrier_request-once a1 b1 bytes h k = cc

barrier_reply-once : (a1 : ℕ) (b1 : ℕ) (bytes : List ℕ)
    → spells (BarrierReply a1) bytes → spells (BarrierReply b1) bytes → BarrierReply a1 ≡ BarrierReply b1
unfolding Stand message_slots
barrier_reply-once a1 b1 bytes h k = cc

queue_get_config_request-once : (a1 a2 : ℕ) (b1 b2 : ℕ) (bytes : List ℕ)
    → spells (QueueGetConfigRequest a1 a2) bytes → spells (QueueGetConfigRequest b1 b2) bytes → QueueGetConfigRequest a1 a2 ≡ QueueGetConfigRequest b1 b2
unfolding Stand message_slots
queue_get_config_request-once a1 a2 b1 b2 bytes h k = cc

queue_get_config_reply-once : (a1 a2 : ℕ) (a3 : List Queue) (b1 b2 : ℕ) (b3 : List Queue) (bytes : List ℕ)
    → spells (QueueGetConfigReply a1 a2 a3) bytes → spells (QueueGetConfigReply b1 b2 b3) bytes → QueueGetConfigReply a1 a2 a3 ≡ QueueGetConfigReply b1 b2 b3
unfolding Stand message_slots
queue_get_config_reply-once a1 a2 a3 b1 b2 b3 bytes h k =
    let same : a3 ≡ b3 = items-once queue_slots queue_item.part 16 a3 b3 bytes h.stand.1.1.1.1.1 k.stand.1.1.1.1.1 (omega (arith, h.whole, k.whole)) in
    cc

pub message-once : (x y : Message) (bytes : List ℕ) → spells x bytes → spells y bytes → x ≡ y
message-once (Hello a1 a2 a3) (Hello b1 b2 b3) bytes h k = hello-once a1 a2 a3 b1 b2 b3 bytes h k
message-once (Hello a1 a2 a3) z bytes h k = absurd (apart (number 1 1 bytes) 0 (kind_of z) (kind_stands (Hello a1 a2 a3) bytes h) (kind_stands z bytes k) refl)
message-once (Error a1 a2 a3 a4) (Error b1 b2 b3 b4) bytes h k = error-once a1 a2 a3 a4 b1 b2 b3 b4 bytes h k
message-once (Error a1 a2 a3 a4) z bytes h k = absurd (apart (number 1 1 bytes) 1 (kind_of z) (kind_stands (Error a1 a2 a3 a4) bytes h) (kind_stands z bytes k) refl)
message-once (EchoRequest a1 a2) (EchoRequest b1 b2) bytes h k = echo_request-once a1 a2 b1 b2 bytes h k
message-once (EchoRequest a1 a2) z bytes h k = absurd (apart (number 1 1 bytes) 2 (kind_of z) (kind_stands (EchoRequest a1 a2) bytes h) (kind_stands z bytes k) refl)
message-once (EchoReply a1 a2) (EchoReply b1 b2) bytes h k = echo_reply-once a1 a2 b1 b2 bytes h k
message-once (EchoReply a1 a2) z bytes h k = absurd (apart (number 1 1 bytes) 3 (kind_of z) (kind_stands (EchoReply a1 a2) bytes h) (kind_stands z bytes k) refl)
message-once (Vendor a1 a2 a3) (Vendor b1 b2 b3) bytes h k = vendor-once a1 a2 a3 b1 b2 b3 bytes h k
message-once (Vendor a1 a2 a3) z bytes h k = absurd (apart (number 1 1 bytes) 4 (kind_of z) (kind_stands (Vendor a1 a2 a3) bytes h) (kind_stands z bytes k) refl)
message-once (FeaturesRequest a1) (FeaturesRequest b1) bytes h k = features_request-once a1 b1 bytes h k
message-once (FeaturesRequest a1) z bytes h k = absurd (apart (number 1 1 bytes) 5 (kind_of z) (kind_stands (FeaturesRequest a1) bytes h) (kind_stands z bytes k) refl)
message-once (FeaturesReply a1 a2 a3 a4 a5 a6 a7) (FeaturesReply b1 b2 b3 b4 b5 b6 b7) bytes h k = features_reply-once a1 a2 a3 a4 a5 a6 a7 b1 b2 b3 b4 b5 b6 b7 bytes h k
message-once (FeaturesReply a1 a2 a3 a4 a5 a6 a7) z bytes h k = absurd (apart (number 1 1 bytes) 6 (kind_of z) (kind_stands (FeaturesReply a1 a2 a3 a4 a5 a6 a7) bytes h) (kind_stands z bytes k) refl)
message-once (GetConfigRequest a1) (GetConfigRequest b1) bytes h k = get_config_request-once a1 b1 bytes h k
message-once (GetConfigRequest a1) z bytes h k = absurd (apart (number 1 1 bytes) 7 (kind_of z) (kind_stands (GetConfigRequest a1) bytes h) (kind_stands z bytes k) refl)
message-once (GetConfigReply a1 a2 a3) (GetConfigReply b1 b2 b3) bytes h k = get_config_reply-once a1 a2 a3 b1 b2 b3 bytes h k
message-once (GetConfigReply a1 a2 a3) z bytes h k = absurd (apart (number 1 1 bytes) 8 (kind_of z) (kind_stands (GetConfigReply a1 a2 a3) bytes h) (kind_stands z bytes k) refl)
message-once (SetConfig a1 a2 a3) (SetConfig b1 b2 b3) bytes h k = set_config-once a1 a2 a3 b1 b2 b3 bytes h k
message-once (SetConfig a1 a2 a3) z bytes h k = absurd (apart (number 1 1 bytes) 9 (kind_of z) (kind_stands (SetConfig a1 a2 a3) bytes h) (kind_stands z bytes k) refl)
message-once (PacketIn a1 a2 a3 a4 a5 a6) (PacketIn b1 b2 b3 b4 b5 b6) bytes h k = packet_in-once a1 a2 a3 a4 a5 a6 b1 b2 b3 b4 b5 b6 bytes h k
message-once (PacketIn a1 a2 a3 a4 a5 a6) z bytes h k = absurd (apart (number 1 1 bytes) 10 (kind_of z) (kind_stands (PacketIn a1 a2 a3 a4 a5 a6) bytes h) (kind_stands z bytes k) refl)
message-once (FlowRemoved a1 a2 a3 a4 a5 a6 a7 a8 a9 a10) (FlowRemoved b1 b2 b3 b4 b5 b6 b7 b8 b9 b10) bytes h k = flow_removed-once a1 a2 a3 a4 a5 a6 a7 a8 a9 a10 b1 b2 b3 b4 b5 b6 b7 b8 b9 b10 bytes h k
message-once (FlowRemoved a1 a2 a3 a4 a5 a6 a7 a8 a9 a10) z bytes h k = absurd (apart (number 1 1 bytes) 11 (kind_of z) (kind_stands (FlowRemoved a1 a2 a3 a4 a5 a6 a7 a8 a9 a10) bytes h) (kind_stands z bytes k) refl)
message-once (PortStatus a1 a2 a3) (PortStatus b1 b2 b3) bytes h k = port_status-once a1 a2 a3 b1 b2 b3 bytes h k
message-once (PortStatus a1 a2 a3) z bytes h k = absurd (apart (number 1 1 bytes) 12 (kind_of z) (kind_stands (PortStatus a1 a2 a3) bytes h) (kind_stands z bytes k) refl)
message-once (PacketOut a1 a2 a3 a4 a5) (PacketOut b1 b2 b3 b4 b5) bytes h k = packet_out-once a1 a2 a3 a4 a5 b1 b2 b3 b4 b5 bytes h k
message-once (PacketOut a1 a2 a3 a4 a5) z bytes h k = absurd (apart (number 1 1 bytes) 13 (kind_of z) (kind_stands (PacketOut a1 a2 a3 a4 a5) bytes h) (kind_stands z bytes k) refl)
message-once (FlowMod a1 a2 a3 a4 a5 a6 a7 a8 a9 a10 a11) (FlowMod b1 b2 b3 b4 b5 b6 b7 b8 b9 b10 b11) bytes h k = flow_mod-once a1 a2 a3 a4 a5 a6 a7 a8 a9 a10 a11 b1 b2 b3 b4 b5 b6 b7 b8 b9 b10 b11 bytes h k
message-once (FlowMod a1 a2 a3 a4 a5 a6 a7 a8 a9 a10 a11) z bytes h k = absurd (apart (number 1 1 bytes) 14 (kind_of z) (kind_stands (FlowMod a1 a2 a3 a4 a5 a6 a7 a8 a9 a10 a11) bytes h) (kind_stands z bytes k) refl)
message-once (PortMod a1 a2 a3 a4 a5 a6) (PortMod b1 b2 b3 b4 b5 b6) bytes h k = port_mod-once a1 a2 a3 a4 a5 a6 b1 b2 b3 b4 b5 b6 bytes h k
message-once (PortMod a1 a2 a3 a4 a5 a6) z bytes h k = absurd (apart (number 1 1 bytes) 15 (kind_of z) (kind_stands (PortMod a1 a2 a3 a4 a5 a6) bytes h) (kind_stands z bytes k) refl)
message-once (StatsRequest a1 a2 a3) (StatsRequest b1 b2 b3) bytes h k = stats_request-once a1 a2 a3 b1 b2 b3 bytes h k
message-once (StatsRequest a1 a2 a3) z bytes h k = absurd (apart (number 1 1 bytes) 16 (kind_of z) (kind_stands (StatsRequest a1 a2 a3) bytes h) (kind_stands z bytes k) refl)
message-once (StatsReply a1 a2 a3) (StatsReply b1 b2 b3) bytes h k = stats_reply-once a1 a2 a3 b1 b2 b3 bytes h k
message-once (StatsReply a1 a2 a3) z bytes h k = absurd (apart (number 1 1 bytes) 17 (kind_of z) (kind_stands (StatsReply a1 a2 a3) bytes h) (kind_stands z bytes k) refl)
message-once (BarrierRequest a1) (BarrierRequest b1) bytes h k = barrier_request-once a1 b1 bytes h k
message-once (BarrierRequest a1) z bytes h k = absurd (apart (number 1 1 bytes) 18 (kind_of z) (kind_stands (BarrierRequest a1) bytes h) (kind_stands z bytes k) refl)
message-once (BarrierReply a1) (BarrierReply b1) bytes h k = barrier_reply-once a1 b1 bytes h k
message-once (BarrierReply a1) z bytes h k = absurd (apart (number 1 1 bytes) 19 (kind_of z) (kind_stands (BarrierReply a1) bytes h) (kind_stands z bytes k) refl)
message-once (QueueGetConfigRequest a1 a2) (QueueGetConfigRequest b1 b2) bytes h k = queue_get_config_request-once a1 a2 b1 b2 bytes h k
message-once (QueueGetConfigRequest a1 a2) z bytes h k = absurd (apart (number 1 1 bytes) 20 (kind_of z) (kind_stands (QueueGetConfigRequest a1 a2) bytes h) (kind_stands z bytes k) refl)
message-once (QueueGetConfigReply a1 a2 a3) (QueueGetConfigReply b1 b2 b3) bytes h k = queue_get_config_reply-once a1 a2 a3 b1 b2 b3 bytes h k
message-once (QueueGetConfigReply a1 a2 a3) z bytes h k = absurd (apart (number 1 1 bytes) 21 (kind_of z) (kind_stands (QueueGetConfigReply a1 a2 a3) bytes h) (kind_stands z bytes k) refl)
