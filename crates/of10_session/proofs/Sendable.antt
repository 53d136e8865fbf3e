-- What a session sends can be sent.
use Rattle.std.proofs.Common.{ℕ, List, [], ◌∷◌, ◌++◌, length, map, ◌≡◌, ◌<◌, ◌+◌, arith, refl, subst, sym}
use Rattle.std.specs.Prelude.{◌*◌, ◌≤◌}
use Rattle.std.specs.List.{flat_map, AllByRecursion}
use Rattle.csdn_core.specs.declared.event.Out.{Out}
use Rattle.csdn_core.specs.declared.event.Out.TheVariants.{Port, Flood}
use Rattle.of10_wire.specs.declared.types.FlowMatch.{FlowMatch}
use Rattle.of10_wire.specs.declared.action.Action.{Action}
use Rattle.of10_wire.specs.declared.action.Action.TheVariants.{Output}
use Rattle.of10_wire.specs.Layout.{Number, width}
use Rattle.of10_wire.specs.Parts.{match_slots}
use Rattle.of10_wire.specs.Actions.{action_slots, IsProper}
use Rattle.of10_wire.proofs.Standing.{width-append}
use Rattle.of10_wire.proofs.PartLaws.{width-match}
use Rattle.of10_msgs.specs.declared.message.Message.{Message}
use Rattle.of10_msgs.specs.declared.message.Message.TheVariants.{Hello, Error, EchoRequest, EchoReply, FeaturesRequest, SetConfig, FlowMod, PacketOut}
use Rattle.of10_msgs.specs.Messages.{message_slots, rest, echoed}
use Rattle.of10_msgs.specs.Sending.{IsSendable}
use Rattle.of10_session.specs.Replies.{output_to, out_action}

pub sendable_hello : (x v : ℕ) (b : List ℕ) → b ≡ [] → IsSendable (Hello x v b)
unfolding message_slots
sendable_hello x v b e = rw e (record { short = omega arith; proper = tt })

pub sendable_error : (x k c : ℕ) (b : List ℕ) → b ≡ [] → IsSendable (Error x k c b)
unfolding message_slots
sendable_error x k c b e = rw e (record { short = omega arith; proper = tt })

pub sendable_request : (x : ℕ) → IsSendable (FeaturesRequest x)
unfolding message_slots
sendable_request x = record { short = omega arith; proper = tt }

pub sendable_config : (x f m : ℕ) → IsSendable (SetConfig x f m)
unfolding message_slots
sendable_config x f m = record { short = omega arith; proper = tt }

sendable_reply : (x : ℕ) (b : List ℕ) → IsSendable (EchoRequest x b) → IsSendable (EchoReply x b)
unfolding message_slots
sendable_reply x b h = record { short = h.short; proper = tt }

pub sendable_echo : (m : Message) → IsSendable m → IsSendable (echoed m)
sendable_echo (EchoRequest x b) h = sendable_reply x b h
sendable_echo m h = h

width_outputs : (ingress : ℕ) (ports : List ℕ) → width (flat_map action_slots (map (output_to ingress) ports)) ≡ 8 * length ports
unfolding action_slots
width_outputs ingress [] = refl
width_outputs ingress (p ∷ ps) = omega (arith, width_outputs ingress ps, width-append (action_slots (output_to ingress p)) (flat_map action_slots (map (output_to ingress) ps)))

proper_outputs : (ingress : ℕ) (ports : List ℕ) → AllByRecursion IsProper (map (output_to ingress) ports)
proper_outputs ingress [] = tt
proper_outputs ingress (p ∷ ps) = (tt, proper_outputs ingress ps)

-- a FLOW_MOD takes 72 bytes and 8 for each port
flow_mod_wide : (flow : FlowMatch) (cookie command idle priority buffer port flags : ℕ) (us : List Action)
    → width (match_slots flow ++ Number 8 cookie ∷ Number 2 command ∷ Number 2 idle ∷ Number 2 0 ∷ Number 2 priority ∷ Number 4 buffer ∷ Number 2 port ∷ Number 2 flags ∷ flat_map action_slots us) ≡ 64 + width (flat_map action_slots us)
flow_mod_wide flow cookie command idle priority buffer port flags us =
    omega (arith, width-match flow, width-append (match_slots flow) (Number 8 cookie ∷ Number 2 command ∷ Number 2 idle ∷ Number 2 0 ∷ Number 2 priority ∷ Number 4 buffer ∷ Number 2 port ∷ Number 2 flags ∷ flat_map action_slots us))

pub sendable_rule : (x : ℕ) (flow : FlowMatch) (cookie idle flags : ℕ) (us : List Action) (ingress : ℕ) (ports : List ℕ) → us ≡ map (output_to ingress) ports → length ports ≤ 4096 → IsSendable (FlowMod x flow cookie 0 idle 0 32768 4294967295 65535 flags us)
unfolding message_slots
sendable_rule x flow cookie idle flags us ingress ports e few = rw e (record {
  short = omega (arith, width_outputs ingress ports, flow_mod_wide flow cookie 0 idle 32768 4294967295 65535 flags (map (output_to ingress) ports), few);
  proper = proper_outputs ingress ports;
})

-- without ports
pub sendable_deletion : (x : ℕ) (flow : FlowMatch) (cookie command priority : ℕ) (us : List Action) → us ≡ [] → IsSendable (FlowMod x flow cookie command 0 0 priority 4294967295 65535 0 us)
unfolding message_slots
sendable_deletion x flow cookie command priority us e = rw e (record {
  short = omega (arith, flow_mod_wide flow cookie command 0 priority 4294967295 65535 0 []);
  proper = tt;
})

width_outs : (ingress : ℕ) (outs : List Out) → width (flat_map action_slots (map (out_action ingress) outs)) ≡ 8 * length outs
unfolding action_slots
width_outs ingress [] = refl
width_outs ingress (Port p ∷ ps) = omega (arith, width_outs ingress ps, width-append (action_slots (output_to ingress p)) (flat_map action_slots (map (out_action ingress) ps)))
width_outs ingress (Flood ∷ ps) = omega (arith, width_outs ingress ps, width-append (action_slots (Output 65532 0)) (flat_map action_slots (map (out_action ingress) ps)))

proper_outs : (ingress : ℕ) (outs : List Out) → AllByRecursion IsProper (map (out_action ingress) outs)
proper_outs ingress [] = tt
proper_outs ingress (Port p ∷ ps) = (tt, proper_outs ingress ps)
proper_outs ingress (Flood ∷ ps) = (tt, proper_outs ingress ps)

pub sendable_out : (m : Message) (x buffer port : ℕ) (outs : List Out) (body : List ℕ) → m ≡ PacketOut x buffer port (map (out_action port) outs) body → 16 + (8 * length outs + length body) < 65536 → IsSendable m
unfolding message_slots
sendable_out m x buffer port outs body e short = subst IsSendable (sym e) (record {
  short = omega (arith, width_outs port outs, width-append (flat_map action_slots (map (out_action port) outs)) (rest body), short);
  proper = proper_outs port outs;
})
