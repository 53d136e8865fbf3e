-- The first reason why bytes are no message.
use Rattle.std.specs.Prelude.{ℕ, ◌≡◌, ◌+◌, ◌-◌, ◌<◌, ◌≤◌, ◌⊎◌, List, length, Option, Some, None, MatchOption, true, false, not, ◌==◌, ◌&&◌, if◌then◌else◌}
use Rattle.of10_wire.specs.declared.refusal.WireRefusal.{WireRefusal}
use Rattle.of10_wire.specs.declared.refusal.WireWhy.TheVariants.{BadLength}
use Rattle.of10_wire.specs.Refusals.{refusal}
use Rattle.of10_wire.specs.MessageTypes as types
use Rattle.of10_wire.specs.Layout.{number, part}
use Rattle.of10_wire.specs.Lists.{IsRefusedIn}
use Rattle.of10_wire.specs.Actions.{IsRefusedAction}
use Rattle.of10_stats.specs.Requests.{request_refusal}
use Rattle.of10_stats.specs.Replies.{RefusesReply}
use Rattle.of10_stats.specs.Queues.{queue_slots, RefusesQueue}
use Rattle.of10_wire.specs.declared.rules.Opening.{Opening}
use Rattle.of10_wire.specs.declared.rules.Opening.TheVariants.{Wants, Frame, Refused}
use Rattle.of10_wire.specs.Headers.{is_kind, opening_of}
use Rattle.of10_msgs.specs.Lengths.{allows_length}

-- what shows before the body is looked at, where the bytes begin so
abbrev pub early_by : Opening → List ℕ → Option WireRefusal
early_by (Wants n) bytes = Some (refusal 2 BadLength)
early_by (Refused e) bytes = Some e
early_by (Frame n) bytes = if (n == length bytes) && allows_length (number 1 1 bytes) n then None else Some (refusal 2 BadLength)

-- what the header and the length already show: a header that its own rules refuse, or that tells another length than the
-- bytes have, or than the layout of its type allows
unfoldable pub early : List ℕ → Option WireRefusal
early bytes = early_by (opening_of bytes) bytes

-- A whole frame of a type of OpenFlow 1.0, of a length that its layout allows: only a HELLO may have another version than 1.
pub record IsTypedFrame (bytes : List ℕ) : Type 0 where
  pub long : 8 ≤ length bytes
  pub version : (not (number 1 0 bytes == 1) && not (number 1 1 bytes == types.hello)) ≡ false
  pub known : is_kind (number 1 1 bytes) ≡ true
  pub len : number 2 2 bytes ≡ length bytes
  pub allowed : allows_length (number 1 1 bytes) (length bytes) ≡ true

-- how many bytes of actions a PACKET_OUT says that it has
abbrev pub actions_len : List ℕ → ℕ
actions_len bytes = number 2 14 bytes

-- a PACKET_OUT has fewer bytes than its actions, or they are refused
abbrev pub LatePacketOut : List ℕ → WireRefusal → Type 0
LatePacketOut bytes e =
    ((length bytes < 16 + actions_len bytes) × (e ≡ refusal 14 BadLength))
    ⊎ ((16 + actions_len bytes ≤ length bytes) × IsRefusedAction 16 (part (actions_len bytes) 16 bytes) e)

-- the actions of a FLOW_MOD are refused
abbrev pub LateFlowMod : List ℕ → WireRefusal → Type 0
LateFlowMod bytes e = IsRefusedAction 72 (part (length bytes - 72) 72 bytes) e

-- the queues of a QUEUE_GET_CONFIG_REPLY are refused
abbrev pub LateQueueReply : List ℕ → WireRefusal → Type 0
LateQueueReply bytes e = IsRefusedIn queue_slots RefusesQueue 16 (part (length bytes - 16) 16 bytes) e

-- what the body shows, from left to right
abbrev pub Late : List ℕ → WireRefusal → Type 0
Late bytes e =
    ((number 1 1 bytes ≡ types.packet_out) × LatePacketOut bytes e)
    ⊎ (((number 1 1 bytes ≡ types.flow_mod) × LateFlowMod bytes e)
    ⊎ (((number 1 1 bytes ≡ types.stats_request) × (request_refusal bytes ≡ Some e))
    ⊎ (((number 1 1 bytes ≡ types.stats_reply) × RefusesReply bytes e) ⊎ ((number 1 1 bytes ≡ types.queue_get_config_reply) × LateQueueReply bytes e))))

-- The first reason why the bytes are no message.
abbrev pub Refuses : List ℕ → WireRefusal → Type 0
Refuses bytes e = MatchOption (early bytes) (Late bytes e) (λ first. e ≡ first)
