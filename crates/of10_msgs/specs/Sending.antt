-- What can be sent.
use Rattle.std.specs.Prelude.{◌<◌, ◌^◌}
use Rattle.std.specs.List.{AllByRecursion}
use Rattle.of10_wire.specs.Layout.{width}
use Rattle.of10_wire.specs.Actions.{IsProper}
use Rattle.of10_stats.specs.Replies.{IsProperReply}
use Rattle.of10_stats.specs.Queues.{IsProperQueue}
use Rattle.of10_msgs.specs.declared.message.Message.{Message}
use Rattle.of10_msgs.specs.declared.message.Message.TheVariants.{PacketOut, FlowMod, StatsReply, QueueGetConfigReply}
use Rattle.of10_msgs.specs.Messages.{message_slots}

-- each vendor action has a multiple of 8 bytes, and no other property has kind 1
abbrev pub IsProperMessage : Message → Type 0
IsProperMessage (PacketOut xid buffer_id in_port actions body) = AllByRecursion IsProper actions
IsProperMessage (FlowMod xid flow cookie command idle_timeout hard_timeout priority buffer_id out_port flags actions) = AllByRecursion IsProper actions
IsProperMessage (StatsReply xid flags body) = IsProperReply body
IsProperMessage (QueueGetConfigReply xid port queues) = AllByRecursion IsProperQueue queues
IsProperMessage message = Unit {0}

-- The message has a frame: its length fits the header, and its parts are proper.
pub record IsSendable (message : Message) : Type 0 where
  pub short : width (message_slots message) < 2 ^ 16
  pub proper : IsProperMessage message
