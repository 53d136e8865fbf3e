-- A message that asks takes at least 16 bytes.
use Rattle.std.proofs.Common.{◌≡◌, ◌≤◌, [], ◌∷◌, Bool, true, false, arith}
use Rattle.std.specs.Prelude.{◌==◌, if◌then◌else◌}
use Rattle.of10_wire.specs.Layout.{Number, Pad}
use Rattle.of10_wire.specs.Parts.{match_slots}
use Rattle.of10_wire.proofs.Standing.{width-append}
use Rattle.of10_msgs.specs.declared.message.Message.{Message}
use Rattle.of10_msgs.specs.declared.message.Message.TheVariants.{Hello, FeaturesReply, GetConfigReply, PacketIn, FlowRemoved, PortStatus, StatsReply, BarrierReply, QueueGetConfigReply}
use Rattle.of10_msgs.specs.Messages.{message_slots}
use Rattle.of10_stream.specs.Streams.{frame_width}
use Rattle.of10_session.specs.declared.session.Phase.{Phase}
use Rattle.of10_session.specs.declared.session.Phase.TheVariants.{Greet}
use Rattle.of10_session.specs.declared.turn.Ask.{Ask}
use Rattle.of10_session.specs.declared.turn.Turn.TheVariants.{Ask as AskFor}
use Rattle.of10_session.specs.Progresses.{Progress}
use Rattle.of10_session.specs.Sessions.{turn, refuses_version, on_hello, on_news}

hello_asks : (s : Progress) (old : Bool) (p : Phase) (ask : Ask) → (if old then refuses_version s else on_hello p s).turn ≡ AskFor ask → ⊥
hello_asks s true p ask e = cc
hello_asks s false Greet ask e = cc
hello_asks s false p ask e = cc

news_asks : (s : Progress) (p : Phase) (ask : Ask) → (on_news p s).turn ≡ AskFor ask → ⊥
news_asks s Greet ask e = cc
news_asks s p ask e = cc

pub asking_wide : (s : Progress) (m : Message) (ask : Ask) → (turn s m).turn ≡ AskFor ask → 16 ≤ frame_width m
unfolding turn message_slots
asking_wide s (Hello xid version body) ask e = absurd (hello_asks s (version == 0) s.phase ask e)
asking_wide s (FeaturesReply xid datapath_id n_buffers n_tables capabilities actions ports) ask e = omega arith
asking_wide s (PacketIn xid buffer_id total_len in_port reason body) ask e = omega arith
asking_wide s (FlowRemoved xid flow cookie priority reason duration_sec duration_nsec idle_timeout packet_count byte_count) ask e =
    omega (arith, width-append (match_slots flow) (Number 8 cookie ∷ Number 2 priority ∷ Number 1 reason ∷ Pad 1 ∷ Number 4 duration_sec ∷ Number 4 duration_nsec ∷ Number 2 idle_timeout ∷ Pad 2 ∷ Number 8 packet_count ∷ Number 8 byte_count ∷ []))
asking_wide s (PortStatus xid reason desc) ask e = absurd (news_asks s s.phase ask e)
asking_wide s (BarrierReply xid) ask e = absurd (news_asks s s.phase ask e)
asking_wide s (GetConfigReply xid flags miss_send_len) ask e = absurd (news_asks s s.phase ask e)
asking_wide s (StatsReply xid flags body) ask e = absurd (news_asks s s.phase ask e)
asking_wide s (QueueGetConfigReply xid port queues) ask e = absurd (news_asks s s.phase ask e)
asking_wide s m ask e = absurd cc
