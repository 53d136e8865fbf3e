-- At each message a session goes on, asks, or ends.
use Rattle.std.proofs.Common.{◌≡◌, ◌≢◌, ℕ, List, [], ◌∷◌, length, refl, Bool, true, false, arith}
use Rattle.std.specs.Prelude.{nat_lt, ◌==◌, if◌then◌else◌}
use Rattle.csdn_history.specs.declared.reply.Reply.{Reply}
use Rattle.of10_wire.specs.declared.types.FlowMatch.{FlowMatch}
use Rattle.of10_msgs.specs.declared.message.Message.{Message}
use Rattle.of10_msgs.specs.declared.message.Message.TheVariants.{Hello, Error, EchoRequest, EchoReply, Vendor, FeaturesReply, GetConfigReply, PacketIn, FlowRemoved, PortStatus, StatsReply, BarrierReply, QueueGetConfigReply}
use Rattle.of10_session.specs.declared.session.Phase.{Phase}
use Rattle.of10_session.specs.declared.session.Phase.TheVariants.{Greet, Features, Serving}
use Rattle.of10_session.specs.declared.session.Pending.{Pending}
use Rattle.of10_session.specs.declared.session.Pending.TheVariants.{Nothing, Joining, Arriving, Expiring}
use Rattle.of10_session.specs.declared.turn.Ask.{Ask}
use Rattle.of10_session.specs.declared.turn.Ask.TheVariants.{Join}
use Rattle.of10_session.specs.Progresses.{Progress, in_phase, of_switch, IsListening, IsTalking}
use Rattle.of10_session.specs.Sessions.{turn, sends, ignores, asks, out_of_turn, refuses_version, on_hello, on_features, arrives, on_packet, is_expiry, rule_ended, on_removed, on_news, IsOrderly}
use Rattle.of10_session.specs.Replies.{answered, passed}

goes_on : (s : Progress) (ms : List Message) → IsListening s → IsOrderly s (sends ms s)
goes_on s ms h = record { goes = λ e. record { talks = h.talks; free = h.free }; asks = λ a e. absurd cc; later = omega arith; count = omega arith }

ignoring_goes : (s : Progress) → IsListening s → IsOrderly s (ignores s)
ignoring_goes s h = record { goes = λ e. record { talks = h.talks; free = h.free }; asks = λ a e. absurd cc; later = omega arith; count = omega arith }

ends : (s : Progress) → IsOrderly s (out_of_turn s)
ends s = record { goes = λ e. absurd cc; asks = λ a e. absurd cc; later = omega arith; count = omega arith }

-- a session that asks
asks_it : (s r : Progress) (ask : Ask) (p : Pending) → IsTalking r.phase → r.ignored ≡ s.ignored → p ≢ Nothing → IsOrderly s (asks ask p r)
asks_it s r ask p talks same waits = record {
  goes = λ e. absurd cc;
  asks = λ a e. record { talks = talks; waits = waits; sent = refl; ignored = same };
  later = omega (arith, same);
  count = omega (arith, same);
}

hello_orderly : (s : Progress) (old : Bool) (p : Phase) → IsListening s → IsOrderly s (if old then refuses_version s else on_hello p s)
hello_orderly s true p h = record { goes = λ e. absurd cc; asks = λ a e. absurd cc; later = omega arith; count = omega arith }
hello_orderly s false Greet h = record { goes = λ e. record { talks = tt; free = h.free }; asks = λ a e. absurd cc; later = omega arith; count = omega arith }
hello_orderly s false p h = ignoring_goes s h

features_orderly : (s : Progress) (p : Phase) (switch : ℕ) → IsListening s → IsOrderly s (on_features p switch s)
features_orderly s Greet switch h = ends s
features_orderly s Features switch h = asks_it s (of_switch (in_phase s Serving) switch) (Join switch) Joining tt refl (λ e. cc)
features_orderly s p switch h = ignoring_goes s h

long_orderly : (s : Progress) (short : Bool) (buffer port : ℕ) (body : List ℕ) → IsListening s → IsOrderly s (if short then ignores s else arrives buffer port body s)
long_orderly s true buffer port body h = ignoring_goes s h
long_orderly s false buffer port body h = asks_it s s _ (Arriving buffer port body) h.talks refl (λ e. cc)

packet_orderly : (s : Progress) (p : Phase) (buffer port : ℕ) (body : List ℕ) → IsListening s → IsOrderly s (on_packet p buffer port body s)
packet_orderly s Greet buffer port body h = ends s
packet_orderly s Serving buffer port body h = long_orderly s (nat_lt (length body) 12) buffer port body h
packet_orderly s p buffer port body h = ignoring_goes s h

expiry_orderly : (s : Progress) (expired : Bool) (flow : FlowMatch) (cookie : ℕ) → IsListening s → IsOrderly s (if expired then asks (rule_ended s.datapath flow cookie) Expiring s else ignores s)
expiry_orderly s true flow cookie h = asks_it s s _ Expiring h.talks refl (λ e. cc)
expiry_orderly s false flow cookie h = ignoring_goes s h

removed_orderly : (s : Progress) (p : Phase) (flow : FlowMatch) (cookie reason : ℕ) → IsListening s → IsOrderly s (on_removed p flow cookie reason s)
removed_orderly s Greet flow cookie reason h = ends s
removed_orderly s Serving flow cookie reason h = expiry_orderly s (is_expiry flow reason) flow cookie h
removed_orderly s p flow cookie reason h = ignoring_goes s h

news_orderly : (s : Progress) (p : Phase) → IsListening s → IsOrderly s (on_news p s)
news_orderly s Greet h = ends s
news_orderly s p h = ignoring_goes s h

pub turn_orderly : (s : Progress) (m : Message) → IsListening s → IsOrderly s (turn s m)
unfolding turn
turn_orderly s (Hello xid version body) h = hello_orderly s (version == 0) s.phase h
turn_orderly s (EchoRequest xid body) h = goes_on s (EchoReply xid body ∷ []) h
turn_orderly s (Error xid kind code body) h = ignoring_goes s h
turn_orderly s (EchoReply xid body) h = ignoring_goes s h
turn_orderly s (Vendor xid vendor body) h = ignoring_goes s h
turn_orderly s (FeaturesReply xid datapath_id n_buffers n_tables capabilities actions ports) h = features_orderly s s.phase datapath_id h
turn_orderly s (PacketIn xid buffer_id total_len in_port reason body) h = packet_orderly s s.phase buffer_id in_port body h
turn_orderly s (FlowRemoved xid flow cookie priority reason duration_sec duration_nsec idle_timeout packet_count byte_count) h = removed_orderly s s.phase flow cookie reason h
turn_orderly s (PortStatus xid reason desc) h = news_orderly s s.phase h
turn_orderly s (BarrierReply xid) h = news_orderly s s.phase h
turn_orderly s (GetConfigReply xid flags miss_send_len) h = news_orderly s s.phase h
turn_orderly s (StatsReply xid flags body) h = news_orderly s s.phase h
turn_orderly s (QueueGetConfigReply xid port queues) h = news_orderly s s.phase h
turn_orderly s m h = ends s

pub answered_listens : (s : Progress) (reply : Reply) → IsTalking s.phase → IsListening (answered s reply).session
unfolding answered
answered_listens s reply h = record { talks = h; free = refl }

pub passed_listens : (s : Progress) → IsTalking s.phase → IsListening (passed s)
passed_listens s h = record { talks = h; free = refl }
