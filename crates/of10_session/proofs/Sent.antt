-- All that a session sends can be sent.
use Rattle.std.proofs.Common.{◌≡◌, ℕ, suc, ◌+◌, ◌*◌, List, [], ◌∷◌, ◌++◌, length, map, refl, Bool, true, false, arith}
use Rattle.std.specs.Prelude.{nat_lt, ◌==◌, if◌then◌else◌, All}
use Rattle.std.specs.List.{AllByRecursion}
use Rattle.std.proofs.lemmas.Bool.{ltb-true}
use Rattle.csdn_core.specs.declared.event.Out.{Out}
use Rattle.csdn_history.specs.declared.reply.Rule.{Rule}
use Rattle.csdn_history.specs.declared.reply.Reply.{Reply}
use Rattle.of10_wire.specs.declared.types.FlowMatch.{FlowMatch}
use Rattle.of10_msgs.specs.declared.message.Message.{Message}
use Rattle.of10_msgs.specs.declared.message.Message.TheVariants.{Hello, EchoRequest, FeaturesReply, GetConfigReply, PacketIn, FlowRemoved, PortStatus, StatsReply, BarrierReply, QueueGetConfigReply}
use Rattle.of10_msgs.specs.Sending.{IsSendable}
use Rattle.of10_session.specs.declared.session.Phase.{Phase}
use Rattle.of10_session.specs.declared.session.Phase.TheVariants.{Greet, Features, Serving}
use Rattle.of10_session.specs.declared.session.Pending.{Pending}
use Rattle.of10_session.specs.declared.session.Pending.TheVariants.{Nothing, Joining, Arriving, Expiring}
use Rattle.of10_session.specs.Progresses.{Progress, next_xid}
use Rattle.of10_session.specs.Sessions.{turn, ignores, asks, refuses_version, on_hello, on_features, arrives, on_packet, is_expiry, rule_ended, on_removed, on_news}
use Rattle.of10_session.specs.Replies.{MessageDraft, numbered, adding, removing, changing, sending_on, going_on, drafts, answered, output_to, no_buffer, IsServableRule, IsServable}
use Rattle.of10_session.proofs.Sendable.{sendable_error, sendable_request, sendable_echo, sendable_config, sendable_rule, sendable_deletion, sendable_out}

abbrev AreSendable : List Message → Type 0
AreSendable ms = AllByRecursion IsSendable ms

-- ---- to a message

hello_sends : (s : Progress) (old : Bool) (p : Phase) → AreSendable (if old then refuses_version s else on_hello p s).sent
hello_sends s true p = (sendable_error s.xid 0 0 [] refl, tt)
hello_sends s false Greet = (sendable_request s.xid, tt)
hello_sends s false p = tt

features_send : (s : Progress) (p : Phase) (switch : ℕ) → AreSendable (on_features p switch s).sent
features_send s Greet switch = tt
features_send s Features switch = tt
features_send s p switch = tt

long_sends : (s : Progress) (short : Bool) (buffer port : ℕ) (body : List ℕ) → AreSendable (if short then ignores s else arrives buffer port body s).sent
long_sends s true buffer port body = tt
long_sends s false buffer port body = tt

packet_sends : (s : Progress) (p : Phase) (buffer port : ℕ) (body : List ℕ) → AreSendable (on_packet p buffer port body s).sent
packet_sends s Greet buffer port body = tt
packet_sends s Serving buffer port body = long_sends s (nat_lt (length body) 12) buffer port body
packet_sends s p buffer port body = tt

expiry_sends : (s : Progress) (expired : Bool) (flow : FlowMatch) (cookie : ℕ) → AreSendable (if expired then asks (rule_ended s.datapath flow cookie) Expiring s else ignores s).sent
expiry_sends s true flow cookie = tt
expiry_sends s false flow cookie = tt

removed_sends : (s : Progress) (p : Phase) (flow : FlowMatch) (cookie reason : ℕ) → AreSendable (on_removed p flow cookie reason s).sent
removed_sends s Greet flow cookie reason = tt
removed_sends s Serving flow cookie reason = expiry_sends s (is_expiry flow reason) flow cookie
removed_sends s p flow cookie reason = tt

news_sends : (s : Progress) (p : Phase) → AreSendable (on_news p s).sent
news_sends s Greet = tt
news_sends s p = tt

pub turn_sends : (s : Progress) (m : Message) → IsSendable m → AreSendable (turn s m).sent
unfolding turn
turn_sends s (Hello xid version body) h = hello_sends s (version == 0) s.phase
turn_sends s (EchoRequest xid body) h = (sendable_echo (EchoRequest xid body) h, tt)
turn_sends s (FeaturesReply xid datapath_id n_buffers n_tables capabilities actions ports) h = features_send s s.phase datapath_id
turn_sends s (PacketIn xid buffer_id total_len in_port reason body) h = packet_sends s s.phase buffer_id in_port body
turn_sends s (FlowRemoved xid flow cookie priority reason duration_sec duration_nsec idle_timeout packet_count byte_count) h = removed_sends s s.phase flow cookie reason
turn_sends s (PortStatus xid reason desc) h = news_sends s s.phase
turn_sends s (BarrierReply xid) h = news_sends s s.phase
turn_sends s (GetConfigReply xid flags miss_send_len) h = news_sends s s.phase
turn_sends s (StatsReply xid flags body) h = news_sends s s.phase
turn_sends s (QueueGetConfigReply xid port queues) h = news_sends s s.phase
turn_sends s m h = tt

-- ---- to an answer

-- a draft can be sent with any xid
abbrev IsReady : MessageDraft → Type 0
IsReady d = (x : ℕ) → IsSendable (d x)

numbered_ready : (x : ℕ) (ds : List MessageDraft) → AllByRecursion IsReady ds → AreSendable (numbered x ds)
numbered_ready x [] h = tt
numbered_ready x (d ∷ ds) h = (h.0 x, numbered_ready (next_xid x) ds h.1)

both_ready : (ds es : List MessageDraft) → AllByRecursion IsReady ds → AllByRecursion IsReady es → AllByRecursion IsReady (ds ++ es)
both_ready [] es h k = k
both_ready (d ∷ ds) es h k = (h.0, both_ready ds es h.1 k)

changing_ready : (r : Rule) (none : Bool) (x : ℕ) → IsServableRule r → IsSendable (if none then removing r x else adding r x)
changing_ready r true x h = sendable_deletion x _ r.cookie 4 32768 [] refl
changing_ready r false x h = sendable_rule x _ r.cookie r.idle _ (map (output_to r.key.i) r.ports) r.key.i r.ports refl h.few

rules_ready : (rs : List Rule) → All IsServableRule rs → AllByRecursion IsReady (map changing rs)
rules_ready [] h = tt
rules_ready (r ∷ rs) h = (λ x. changing_ready r (length r.ports == 0) x (h 0 r (omega arith)), rules_ready rs (λ k d less. h (suc k) d (omega (arith, less))))

sending_ready : (buffer port : ℕ) (outs : List Out) (body : List ℕ) (fits : Bool) → nat_lt (16 + (8 * length outs + length body)) 65536 ≡ fits → AllByRecursion IsReady (sending_on buffer port outs body)
sending_ready buffer port outs body true is = rw is (λ x. sendable_out _ x buffer port outs body refl (ltb-true (16 + (8 * length outs + length body)) 65536 is), tt)
sending_ready buffer port outs body false is = rw is tt

empty_ready : (buffer port : ℕ) (body : List ℕ) (outs : List Out) (none : Bool) → AllByRecursion IsReady (if none then [] else sending_on buffer port outs body)
empty_ready buffer port body outs true = tt
empty_ready buffer port body outs false = sending_ready buffer port outs body _ refl

going_ready : (buffer port : ℕ) (body : List ℕ) (outs : List Out) (free : Bool) → AllByRecursion IsReady (if free then (if length outs == 0 then [] else sending_on buffer port outs body) else sending_on buffer port outs [])
going_ready buffer port body outs true = empty_ready buffer port body outs (length outs == 0)
going_ready buffer port body outs false = sending_ready buffer port outs [] _ refl

drafts_ready : (p : Pending) (reply : Reply) → IsServable reply → AllByRecursion IsReady (drafts p reply)
drafts_ready Nothing reply h = tt
drafts_ready Joining reply h = (λ x. sendable_config x 0 65535, (λ x. sendable_deletion x _ 0 3 0 [] refl, rules_ready reply.rules h.rules))
drafts_ready (Arriving buffer port body) reply h = both_ready (map changing reply.rules) (going_on buffer port body reply.outs) (rules_ready reply.rules h.rules) (going_ready buffer port body reply.outs (buffer == no_buffer))
drafts_ready Expiring reply h = tt

pub answer_sends : (s : Progress) (reply : Reply) → IsServable reply → AreSendable (answered s reply).sent
unfolding answered
answer_sends s reply h = numbered_ready s.xid (drafts s.pending reply) (drafts_ready s.pending reply h)
