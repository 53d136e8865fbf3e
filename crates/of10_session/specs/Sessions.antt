-- What a session says to each message of a switch.
use Rattle.std.specs.Prelude.{ℕ, ◌≡◌, ◌≢◌, ◌+◌, ◌≤◌, ◌==◌, ◌&&◌, List, [], ◌∷◌, ◌++◌, length, Bool, nat_lt, bit_and, if◌then◌else◌}
use Rattle.std.specs.List.{flat_map}
use Rattle.of10_wire.specs.declared.types.FlowMatch.{FlowMatch}
use Rattle.of10_wire.specs.Layout.{number}
use Rattle.of10_msgs.specs.declared.message.Message.{Message}
use Rattle.of10_msgs.specs.declared.message.Message.TheVariants.{Hello, Error, EchoRequest, EchoReply, Vendor, FeaturesRequest, FeaturesReply, GetConfigRequest, GetConfigReply, SetConfig, PacketIn, FlowRemoved, PortStatus, PacketOut, FlowMod, PortMod, StatsRequest, StatsReply, BarrierRequest, BarrierReply, QueueGetConfigRequest, QueueGetConfigReply}
use Rattle.of10_msgs.specs.Messages.{zeroed}
use Rattle.of10_session.specs.declared.session.Phase.{Phase}
use Rattle.of10_session.specs.declared.session.Phase.TheVariants.{Greet, Features, Serving, Over}
use Rattle.of10_session.specs.declared.session.Pending.{Pending}
use Rattle.of10_session.specs.declared.session.Pending.TheVariants.{Nothing, Joining, Arriving, Expiring}
use Rattle.of10_session.specs.declared.turn.Ask.{Ask}
use Rattle.of10_session.specs.declared.turn.Ask.TheVariants.{Join, Packet, Expire}
use Rattle.of10_session.specs.declared.turn.Turn.{Turn}
use Rattle.of10_session.specs.declared.turn.Turn.TheVariants.{Go, Ask as AskFor, End}
use Rattle.of10_session.specs.declared.turn.TurnEnd.TheVariants.{Incompatible, OutOfTurn}
use Rattle.of10_session.specs.Progresses.{Progress, in_phase, with_pending, of_switch, ignoring, drawn, IsTalking, IsListening}

-- messages as bytes, one after another
abbrev pub spelled : List Message → List ℕ
spelled messages = flat_map zeroed messages

-- what a session sends, whether it asks or ends, and how it goes on
pub record Turned : Type 0 where
  pub sent : List Message
  pub turn : Turn
  pub session : Progress

abbrev pub sends : List Message → Progress → Turned
sends sent s = record { sent = sent; turn = Go; session = s }

abbrev pub ignores : Progress → Turned
ignores s = sends [] (ignoring s)

-- an ask, and what is kept for its answer
abbrev pub asks : Ask → Pending → Progress → Turned
asks ask pending s = record { sent = []; turn = AskFor ask; session = with_pending s pending }

abbrev pub out_of_turn : Progress → Turned
out_of_turn s = record { sent = []; turn = End OutOfTurn; session = in_phase s Over }

-- a HELLO of version 0 is answered by ERROR of type 0 and code 0
abbrev pub refuses_version : Progress → Turned
refuses_version s = record { sent = Error s.xid 0 0 [] ∷ []; turn = End Incompatible; session = in_phase (drawn s) Over }

abbrev pub on_hello : Phase → Progress → Turned
on_hello Greet s = sends (FeaturesRequest s.xid ∷ []) (in_phase (drawn s) Features)
on_hello phase s = ignores s

abbrev pub on_features : Phase → (switch : ℕ) → Progress → Turned
on_features Greet switch s = out_of_turn s
on_features Features switch s = asks (Join switch) Joining (of_switch (in_phase s Serving) switch)
on_features phase switch s = ignores s

-- the packet that the first 12 bytes of a body show: its destination, and then its source
abbrev pub packet_shown : (switch port : ℕ) → List ℕ → Ask
packet_shown switch port body = Packet switch (number 6 6 body) (number 6 0 body) port

abbrev pub arrives : (buffer port : ℕ) → List ℕ → Progress → Turned
arrives buffer port body s = asks (packet_shown s.datapath port body) (Arriving buffer port body) s

abbrev pub on_packet : Phase → (buffer port : ℕ) → List ℕ → Progress → Turned
on_packet Greet buffer port body s = out_of_turn s
on_packet Serving buffer port body s = if nat_lt (length body) 12 then ignores s else arrives buffer port body s
on_packet phase buffer port body s = ignores s

-- The rule ended after a time without packets, and its match names a port, a source and a destination: bits 0, 2 and 3
-- of the wildcards are clear. Other bits may be written in another way by the switch.
abbrev pub is_expiry : FlowMatch → (reason : ℕ) → Bool
is_expiry flow reason = (reason == 0) && (bit_and flow.wildcards 13 == 0)

abbrev pub rule_ended : (switch : ℕ) → FlowMatch → (cookie : ℕ) → Ask
rule_ended switch flow cookie = Expire switch (number 6 0 flow.dl_src) (number 6 0 flow.dl_dst) flow.in_port cookie

abbrev pub on_removed : Phase → FlowMatch → (cookie reason : ℕ) → Progress → Turned
on_removed Greet flow cookie reason s = out_of_turn s
on_removed Serving flow cookie reason s = if is_expiry flow reason then asks (rule_ended s.datapath flow cookie) Expiring s else ignores s
on_removed phase flow cookie reason s = ignores s

-- what a switch tells by itself, or in reply to what is never asked
abbrev pub on_news : Phase → Progress → Turned
on_news Greet s = out_of_turn s
on_news phase s = ignores s

-- THE MACHINE
unfoldable pub turn : Progress → Message → Turned
turn s (Hello xid version body) = if version == 0 then refuses_version s else on_hello s.phase s
turn s (EchoRequest xid body) = sends (EchoReply xid body ∷ []) s
turn s (Error xid kind code body) = ignores s
turn s (EchoReply xid body) = ignores s
turn s (Vendor xid vendor body) = ignores s
turn s (FeaturesReply xid datapath_id n_buffers n_tables capabilities actions ports) = on_features s.phase datapath_id s
turn s (PacketIn xid buffer_id total_len in_port reason body) = on_packet s.phase buffer_id in_port body s
turn s (FlowRemoved xid flow cookie priority reason duration_sec duration_nsec idle_timeout packet_count byte_count) = on_removed s.phase flow cookie reason s
turn s (PortStatus xid reason desc) = on_news s.phase s
turn s (BarrierReply xid) = on_news s.phase s
turn s (GetConfigReply xid flags miss_send_len) = on_news s.phase s
turn s (StatsReply xid flags body) = on_news s.phase s
turn s (QueueGetConfigReply xid port queues) = on_news s.phase s
turn s (FeaturesRequest xid) = out_of_turn s
turn s (GetConfigRequest xid) = out_of_turn s
turn s (SetConfig xid flags miss_send_len) = out_of_turn s
turn s (PacketOut xid buffer_id in_port actions body) = out_of_turn s
turn s (FlowMod xid flow cookie command idle_timeout hard_timeout priority buffer_id out_port flags actions) = out_of_turn s
turn s (PortMod xid port_no hw_addr config mask advertise) = out_of_turn s
turn s (StatsRequest xid flags body) = out_of_turn s
turn s (BarrierRequest xid) = out_of_turn s
turn s (QueueGetConfigRequest xid port) = out_of_turn s

-- a call made this turn: it answered so, and appended what is sent
pub record Makes (t : Turned) (answer : Turn) (now : Progress) (before after : List ℕ) : Type 0 where
  pub turn : answer ≡ t.turn
  pub session : now ≡ t.session
  pub bytes : after ≡ before ++ spelled t.sent

-- ---- what holds of each turn

-- a session that asks has sent nothing and ignored nothing, and waits for the answer
pub record IsAsking (s : Progress) (t : Turned) : Type 0 where
  pub talks : IsTalking t.session.phase
  pub waits : t.session.pending ≢ Nothing
  pub sent : t.sent ≡ []
  pub ignored : t.session.ignored ≡ s.ignored

-- a session goes on and listens, or asks, or ends; at most one more message is ignored
pub record IsOrderly (s : Progress) (t : Turned) : Type 0 where
  pub goes : t.turn ≡ Go → IsListening t.session
  pub asks : (ask : Ask) → t.turn ≡ AskFor ask → IsAsking s t
  pub later : s.ignored ≤ t.session.ignored
  pub count : t.session.ignored ≤ s.ignored + 1
