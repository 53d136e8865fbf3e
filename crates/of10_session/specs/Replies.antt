-- What a session says when its ask is answered.
use Rattle.std.specs.Prelude.{ℕ, ◌+◌, ◌*◌, ◌^◌, ◌<◌, ◌≤◌, ◌==◌, List, [], ◌∷◌, ◌++◌, length, map, nat_lt, if◌then◌else◌, All}
use Rattle.csdn_core.specs.declared.event.Match.{Match}
use Rattle.csdn_core.specs.declared.event.Out.{Out}
use Rattle.csdn_core.specs.declared.event.Out.TheVariants.{Port, Flood}
use Rattle.csdn_history.specs.declared.reply.Rule.{Rule}
use Rattle.csdn_history.specs.declared.reply.Reply.{Reply}
use Rattle.of10_wire.specs.declared.types.FlowMatch.{FlowMatch}
use Rattle.of10_wire.specs.declared.action.Action.{Action}
use Rattle.of10_wire.specs.declared.action.Action.TheVariants.{Output}
use Rattle.of10_wire.specs.ReservedPorts as reserved
use Rattle.of10_wire.specs.Layout.{bytes_of}
use Rattle.of10_msgs.specs.declared.message.Message.{Message}
use Rattle.of10_msgs.specs.declared.message.Message.TheVariants.{SetConfig, PacketOut, FlowMod}
use Rattle.of10_session.specs.declared.session.Pending.{Pending}
use Rattle.of10_session.specs.declared.session.Pending.TheVariants.{Nothing, Joining, Arriving, Expiring}
use Rattle.of10_session.specs.Progresses.{Progress, with_xid, with_pending, ignoring, next_xid}
use Rattle.of10_session.specs.Sessions.{Turned, sends, spelled}

-- ---- messages that wait for their xids

abbrev pub MessageDraft : Type 0
MessageDraft = ℕ → Message

-- each draft draws the next xid
abbrev pub numbered : ℕ → List MessageDraft → List Message
numbered x [] = []
numbered x (d ∷ ds) = d x ∷ numbered (next_xid x) ds

-- the next xid behind them
abbrev pub xid_behind : ℕ → List MessageDraft → ℕ
xid_behind x [] = x
xid_behind x (d ∷ ds) = xid_behind (next_xid x) ds

-- the bytes of the drafts
abbrev pub spelled_from : ℕ → List MessageDraft → List ℕ
spelled_from x ds = spelled (numbered x ds)

-- ---- rules

-- the port on which the packet came is written as the reserved one
abbrev pub port_written : (ingress port : ℕ) → ℕ
port_written ingress port = if port == ingress then reserved.in_port else port

abbrev pub output_to : (ingress port : ℕ) → Action
output_to ingress port = Output (port_written ingress port) 0

-- packets of one port, source and destination, as far as the wildcards look at them
abbrev pub flow_of : (wildcards port : ℕ) → (source destination : List ℕ) → FlowMatch
flow_of wildcards port source destination = record { wildcards = wildcards; in_port = port; dl_src = source; dl_dst = destination; dl_vlan = 0; dl_vlan_pcp = 0; dl_type = 0; nw_tos = 0; nw_proto = 0; nw_src = 0; nw_dst = 0; tp_src = 0; tp_dst = 0 }

-- 0x003ffff2: the port, the source and the destination are looked at
abbrev pub flow_of_match : Match → FlowMatch
flow_of_match k = flow_of 4194290 k.i (bytes_of 6 k.a) (bytes_of 6 k.b)

-- how a FLOW_MOD changes rules
abbrev pub add : ℕ
add = 0

abbrev pub delete_all_that_fit : ℕ
delete_all_that_fit = 3

abbrev pub delete_that_one : ℕ
delete_that_one = 4

abbrev pub no_buffer : ℕ
no_buffer = 4294967295

-- whether a switch tells that the rule ended: where it ends by itself
abbrev pub flags_for : (idle : ℕ) → ℕ
flags_for idle = if idle == 0 then 0 else 1

-- a rule with ports takes the place of the one that fits the same packets
abbrev pub adding : Rule → MessageDraft
adding r x = FlowMod x (flow_of_match r.key) r.cookie add r.idle 0 32768 no_buffer reserved.none (flags_for r.idle) (map (output_to r.key.i) r.ports)

abbrev pub removing : Rule → MessageDraft
removing r x = FlowMod x (flow_of_match r.key) r.cookie delete_that_one 0 0 32768 no_buffer reserved.none 0 []

abbrev pub changing : Rule → MessageDraft
changing r x = if length r.ports == 0 then removing r x else adding r x

-- ---- a join

abbrev pub no_address : List ℕ
no_address = 0 ∷ 0 ∷ 0 ∷ 0 ∷ 0 ∷ 0 ∷ []

-- packets come whole
abbrev pub configuring : MessageDraft
configuring x = SetConfig x 0 65535

-- 0x003fffff: nothing is looked at, so every rule is deleted
abbrev pub clearing : MessageDraft
clearing x = FlowMod x (flow_of 4194303 0 no_address no_address) 0 delete_all_that_fit 0 0 0 no_buffer reserved.none 0 []

abbrev pub welcoming : List Rule → List MessageDraft
welcoming rules = configuring ∷ clearing ∷ map changing rules

-- ---- a packet

-- a flood is written as all ports but the one on which the packet came
abbrev pub out_action : ℕ → Out → Action
out_action ingress (Port port) = output_to ingress port
out_action ingress Flood = Output reserved.all 0

-- a packet is sent on, where that fits a message
abbrev pub sending_on : (buffer port : ℕ) → List Out → List ℕ → List MessageDraft
sending_on buffer port outs body =
    if nat_lt (16 + (8 * length outs + length body)) 65536 then (λ x. PacketOut x buffer port (map (out_action port) outs) body) ∷ [] else []

-- a packet without a buffer goes on with its bytes, where it goes anywhere; a buffer is always let go
abbrev pub going_on : (buffer port : ℕ) → List ℕ → List Out → List MessageDraft
going_on buffer port body outs =
    if buffer == no_buffer then (if length outs == 0 then [] else sending_on buffer port outs body)
    else sending_on buffer port outs []

abbrev pub forwarding : (buffer port : ℕ) → List ℕ → Reply → List MessageDraft
forwarding buffer port body reply = map changing reply.rules ++ going_on buffer port body reply.outs

-- ---- answers

abbrev pub drafts : Pending → Reply → List MessageDraft
drafts Nothing reply = []
drafts Joining reply = welcoming reply.rules
drafts (Arriving buffer port body) reply = forwarding buffer port body reply
drafts Expiring reply = []

unfoldable pub answered : Progress → Reply → Turned
answered s reply = sends (numbered s.xid (drafts s.pending reply)) (with_pending (with_xid s (xid_behind s.xid (drafts s.pending reply))) Nothing)

-- the ask is let go, and its message counts as ignored
abbrev pub passed : Progress → Progress
passed s = with_pending (ignoring s) Nothing

-- ---- what fits messages

pub record IsServableRule (r : Rule) : Type 0 where
  pub source : r.key.a < 2 ^ 48
  pub destination : r.key.b < 2 ^ 48
  pub port : r.key.i < 2 ^ 16
  pub ports : All (λ p. p < 2 ^ 16) r.ports
  pub few : length r.ports ≤ 4096

abbrev pub IsServableOut : Out → Type 0
IsServableOut (Port p) = p < 2 ^ 16
IsServableOut Flood = Unit {0}

pub record IsServable (reply : Reply) : Type 0 where
  pub rules : All IsServableRule reply.rules
  pub outs : All IsServableOut reply.outs
