-- The line of each frame, and of what is left behind the last.
use Rattle.std.specs.Prelude.{ℕ, zero, suc, ◌+◌, ◌<◌, ◌^◌, ◌==◌, if◌then◌else◌, List, [], ◌++◌, codes, decimal}
use Rattle.of10_wire.specs.MessageTypes as types
use Rattle.of10_wire.specs.declared.refusal.WireWhy.{WireWhy}
use Rattle.of10_wire.specs.declared.refusal.WireWhy.TheVariants.{Memory, BadVersion, BadType, BadLength, BadAction, BadStat, BadProperty}
use Rattle.of10_msgs.specs.declared.message.Message.{Message}
use Rattle.of10_msgs.specs.Messages.{kind_of, xid_of}
use Rattle.of10_stream.specs.declared.tail.Tail.{Tail}
use Rattle.of10_stream.specs.declared.tail.Tail.TheVariants.{Cut, Broken}
use Rattle.of10_stream.specs.Streams.{frame_width}

-- the name of a message type (OpenFlow Switch Specification 1.0.0, section 5.1)
unfoldable pub type_name : ℕ → List ℕ
type_name kind =
    if kind == types.hello then codes "HELLO"
    else if kind == types.error then codes "ERROR"
    else if kind == types.echo_request then codes "ECHO_REQUEST"
    else if kind == types.echo_reply then codes "ECHO_REPLY"
    else if kind == types.vendor then codes "VENDOR"
    else if kind == types.features_request then codes "FEATURES_REQUEST"
    else if kind == types.features_reply then codes "FEATURES_REPLY"
    else if kind == types.get_config_request then codes "GET_CONFIG_REQUEST"
    else if kind == types.get_config_reply then codes "GET_CONFIG_REPLY"
    else if kind == types.set_config then codes "SET_CONFIG"
    else if kind == types.packet_in then codes "PACKET_IN"
    else if kind == types.flow_removed then codes "FLOW_REMOVED"
    else if kind == types.port_status then codes "PORT_STATUS"
    else if kind == types.packet_out then codes "PACKET_OUT"
    else if kind == types.flow_mod then codes "FLOW_MOD"
    else if kind == types.port_mod then codes "PORT_MOD"
    else if kind == types.stats_request then codes "STATS_REQUEST"
    else if kind == types.stats_reply then codes "STATS_REPLY"
    else if kind == types.barrier_request then codes "BARRIER_REQUEST"
    else if kind == types.barrier_reply then codes "BARRIER_REPLY"
    else if kind == types.queue_get_config_request then codes "QUEUE_GET_CONFIG_REQUEST"
    else if kind == types.queue_get_config_reply then codes "QUEUE_GET_CONFIG_REPLY"
    else []

unfoldable pub why_name : WireWhy → List ℕ
why_name Memory = codes "Memory"
why_name BadVersion = codes "BadVersion"
why_name BadType = codes "BadType"
why_name BadLength = codes "BadLength"
why_name BadAction = codes "BadAction"
why_name BadStat = codes "BadStat"
why_name BadProperty = codes "BadProperty"

-- the line of a message of this type, length and number, whose frame begins at a place
abbrev pub frame_line : (at kind length xid : ℕ) → List ℕ
frame_line at kind length xid = decimal at ++ codes " " ++ type_name kind ++ codes " length " ++ decimal length ++ codes " xid " ++ decimal xid ++ codes "\n"

-- the line of the message whose frame begins at a place
abbrev pub message_line : ℕ → Message → List ℕ
message_line at message = frame_line at (kind_of message) (frame_width message) (xid_of message)

abbrev pub cut_line : ℕ → ℕ → List ℕ
cut_line at zero = []
cut_line at (suc n) = decimal at ++ codes " cut " ++ decimal (suc n) ++ codes "\n"

abbrev pub refused_line : ℕ → WireWhy → List ℕ
refused_line at why = decimal at ++ codes " refused " ++ why_name why ++ codes "\n"

-- the line of what is left from a place on: none where nothing is
abbrev pub tail_line : ℕ → Tail → List ℕ
tail_line at (Cut len) = cut_line at len
tail_line at (Broken refusal) = refused_line (at + refusal.at) refusal.why

-- the tail's place can be counted from the first byte of all
abbrev pub IsNear : ℕ → Tail → Type 0
IsNear at (Cut len) = Unit {0}
IsNear at (Broken refusal) = at + refusal.at < 2 ^ 64
