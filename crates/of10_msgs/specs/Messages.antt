-- The layout of each message.
use Rattle.std.specs.Prelude.{ℕ, ◌≡◌, List, [], ◌∷◌, ◌++◌, length}
use Rattle.std.specs.List.{flat_map}
use Rattle.of10_wire.specs.Headers.{frame}
use Rattle.of10_wire.specs.MessageTypes as types
use Rattle.of10_wire.specs.Layout.{Slot, Number, Raw, Pad, Spells, appended, width, number}
use Rattle.of10_wire.specs.Parts.{match_slots, port_slots}
use Rattle.of10_wire.specs.Actions.{action_slots}
use Rattle.of10_stats.specs.Requests.{request_kind, request_slots}
use Rattle.of10_stats.specs.Replies.{reply_kind, reply_slots}
use Rattle.of10_stats.specs.Queues.{queue_slots}
use Rattle.of10_msgs.specs.declared.message.Message.{Message}
use Rattle.of10_msgs.specs.declared.message.Message.TheVariants.{Hello, Error, EchoRequest, EchoReply, Vendor, FeaturesRequest, FeaturesReply, GetConfigRequest, GetConfigReply, SetConfig, PacketIn, FlowRemoved, PortStatus, PacketOut, FlowMod, PortMod, StatsRequest, StatsReply, BarrierRequest, BarrierReply, QueueGetConfigRequest, QueueGetConfigReply}

-- bytes to the end
abbrev pub rest : List ℕ → List Slot
rest body = Raw (length body) body ∷ []

-- only a HELLO has any version
abbrev pub version_of : Message → ℕ
version_of (Hello xid version body) = version
version_of message = 1

-- the number of the message's type
abbrev pub kind_of : Message → ℕ
kind_of (Hello xid version body) = types.hello
kind_of (Error xid kind code body) = types.error
kind_of (EchoRequest xid body) = types.echo_request
kind_of (EchoReply xid body) = types.echo_reply
kind_of (Vendor xid vendor body) = types.vendor
kind_of (FeaturesRequest xid) = types.features_request
kind_of (FeaturesReply xid datapath_id n_buffers n_tables capabilities actions ports) = types.features_reply
kind_of (GetConfigRequest xid) = types.get_config_request
kind_of (GetConfigReply xid flags miss_send_len) = types.get_config_reply
kind_of (SetConfig xid flags miss_send_len) = types.set_config
kind_of (PacketIn xid buffer_id total_len in_port reason body) = types.packet_in
kind_of (FlowRemoved xid flow cookie priority reason duration_sec duration_nsec idle_timeout packet_count byte_count) = types.flow_removed
kind_of (PortStatus xid reason desc) = types.port_status
kind_of (PacketOut xid buffer_id in_port actions body) = types.packet_out
kind_of (FlowMod xid flow cookie command idle_timeout hard_timeout priority buffer_id out_port flags actions) = types.flow_mod
kind_of (PortMod xid port_no hw_addr config mask advertise) = types.port_mod
kind_of (StatsRequest xid flags body) = types.stats_request
kind_of (StatsReply xid flags body) = types.stats_reply
kind_of (BarrierRequest xid) = types.barrier_request
kind_of (BarrierReply xid) = types.barrier_reply
kind_of (QueueGetConfigRequest xid port) = types.queue_get_config_request
kind_of (QueueGetConfigReply xid port queues) = types.queue_get_config_reply

abbrev pub xid_of : Message → ℕ
xid_of (Hello xid version body) = xid
xid_of (Error xid kind code body) = xid
xid_of (EchoRequest xid body) = xid
xid_of (EchoReply xid body) = xid
xid_of (Vendor xid vendor body) = xid
xid_of (FeaturesRequest xid) = xid
xid_of (FeaturesReply xid datapath_id n_buffers n_tables capabilities actions ports) = xid
xid_of (GetConfigRequest xid) = xid
xid_of (GetConfigReply xid flags miss_send_len) = xid
xid_of (SetConfig xid flags miss_send_len) = xid
xid_of (PacketIn xid buffer_id total_len in_port reason body) = xid
xid_of (FlowRemoved xid flow cookie priority reason duration_sec duration_nsec idle_timeout packet_count byte_count) = xid
xid_of (PortStatus xid reason desc) = xid
xid_of (PacketOut xid buffer_id in_port actions body) = xid
xid_of (FlowMod xid flow cookie command idle_timeout hard_timeout priority buffer_id out_port flags actions) = xid
xid_of (PortMod xid port_no hw_addr config mask advertise) = xid
xid_of (StatsRequest xid flags body) = xid
xid_of (StatsReply xid flags body) = xid
xid_of (BarrierRequest xid) = xid
xid_of (BarrierReply xid) = xid
xid_of (QueueGetConfigRequest xid port) = xid
xid_of (QueueGetConfigReply xid port queues) = xid

-- the reply to an echo request
abbrev pub echoed : Message → Message
echoed (EchoRequest xid body) = EchoReply xid body
echoed message = message

-- what stands behind the header
abbrev pub fields_of : Message → List Slot
fields_of (Hello xid version body) = rest body
fields_of (Error xid kind code body) = Number 2 kind ∷ Number 2 code ∷ rest body
fields_of (EchoRequest xid body) = rest body
fields_of (EchoReply xid body) = rest body
fields_of (Vendor xid vendor body) = Number 4 vendor ∷ rest body
fields_of (FeaturesRequest xid) = []
fields_of (FeaturesReply xid datapath_id n_buffers n_tables capabilities actions ports) = Number 8 datapath_id ∷ Number 4 n_buffers ∷ Number 1 n_tables ∷ Pad 3 ∷ Number 4 capabilities ∷ Number 4 actions ∷ flat_map port_slots ports
fields_of (GetConfigRequest xid) = []
fields_of (GetConfigReply xid flags miss_send_len) = Number 2 flags ∷ Number 2 miss_send_len ∷ []
fields_of (SetConfig xid flags miss_send_len) = Number 2 flags ∷ Number 2 miss_send_len ∷ []
fields_of (PacketIn xid buffer_id total_len in_port reason body) = Number 4 buffer_id ∷ Number 2 total_len ∷ Number 2 in_port ∷ Number 1 reason ∷ Pad 1 ∷ rest body
fields_of (FlowRemoved xid flow cookie priority reason duration_sec duration_nsec idle_timeout packet_count byte_count) = match_slots flow ++ Number 8 cookie ∷ Number 2 priority ∷ Number 1 reason ∷ Pad 1 ∷ Number 4 duration_sec ∷ Number 4 duration_nsec ∷ Number 2 idle_timeout ∷ Pad 2 ∷ Number 8 packet_count ∷ Number 8 byte_count ∷ []
fields_of (PortStatus xid reason desc) = Number 1 reason ∷ Pad 7 ∷ port_slots desc
fields_of (PacketOut xid buffer_id in_port actions body) = Number 4 buffer_id ∷ Number 2 in_port ∷ Number 2 (width (flat_map action_slots actions)) ∷ (flat_map action_slots actions ++ rest body)
fields_of (FlowMod xid flow cookie command idle_timeout hard_timeout priority buffer_id out_port flags actions) = match_slots flow ++ Number 8 cookie ∷ Number 2 command ∷ Number 2 idle_timeout ∷ Number 2 hard_timeout ∷ Number 2 priority ∷ Number 4 buffer_id ∷ Number 2 out_port ∷ Number 2 flags ∷ flat_map action_slots actions
fields_of (PortMod xid port_no hw_addr config mask advertise) = Number 2 port_no ∷ Raw 6 hw_addr ∷ Number 4 config ∷ Number 4 mask ∷ Number 4 advertise ∷ Pad 4 ∷ []
fields_of (StatsRequest xid flags body) = Number 2 (request_kind body) ∷ Number 2 flags ∷ request_slots body
fields_of (StatsReply xid flags body) = Number 2 (reply_kind body) ∷ Number 2 flags ∷ reply_slots body
fields_of (BarrierRequest xid) = []
fields_of (BarrierReply xid) = []
fields_of (QueueGetConfigRequest xid port) = Number 2 port ∷ Pad 2 ∷ []
fields_of (QueueGetConfigReply xid port queues) = Number 2 port ∷ Pad 6 ∷ flat_map queue_slots queues

unfoldable pub message_slots : Message → List Slot
message_slots message = frame (version_of message) (kind_of message) (xid_of message) (fields_of message)

-- The bytes are a spelling of the message: pads are any bytes.
abbrev pub spells : Message → List ℕ → Type 0
spells message bytes = Spells (message_slots message) bytes

-- the spelling whose pads are zeros
abbrev pub zeroed : Message → List ℕ
zeroed message = appended [] (message_slots message)

-- a whole frame of version 1 and this type
pub record Opens (kind_is : ℕ) (bytes : List ℕ) : Type 0 where
  pub version : number 1 0 bytes ≡ 1
  pub kind : number 1 1 bytes ≡ kind_is
  pub len : number 2 2 bytes ≡ length bytes
