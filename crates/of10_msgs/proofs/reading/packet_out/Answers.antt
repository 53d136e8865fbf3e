use Rattle.std.proofs.Common.{◌≡◌, ◌+◌, ◌++◌, length, arith, sym}
use Rattle.std.specs.List.{flat_map}
use Rattle.of10_wire.specs.Layout.{Stand, width}
use Rattle.of10_wire.specs.Actions.{action_slots}
use Rattle.of10_wire.proofs.Standing.{Stand-append, Stand-at, width-append}
use Rattle.of10_msgs.specs.Messages.{message_slots, rest}
use Rattle.of10_msgs.proofs.reading.packet_out.Goals as goal

pub returns : goal.returns
unfolding Stand message_slots
returns c =
    let actions = c.in_ok-actions.actions in
    let body = c.in_ok-body.body in
    let bytes = c.args.bytes.now in
    let wide : width (flat_map action_slots actions ++ rest body) ≡ width (flat_map action_slots actions) + (length body + 0) = width-append (flat_map action_slots actions) (rest body) in
    let tail : Stand (16 + width (flat_map action_slots actions)) (rest body) bytes = Stand-at (16 + c.u16_at.result) (16 + width (flat_map action_slots actions)) (rest body) bytes (sym c.in_ok-actions.ensures.wide) (c.in_ok-body.ensures.part, tt) in
    let both : Stand 16 (flat_map action_slots actions ++ rest body) bytes = Stand-append 16 (flat_map action_slots actions) (rest body) bytes c.in_ok-actions.ensures.stand tail in
    record {
      stand = (c.requires.opens.version, (c.requires.opens.kind, (omega (arith, wide, c.requires.opens.len, c.in_ok-actions.ensures.wide, c.in_ok-body.ensures.len), (sym c.u32_at.ensures, (sym c.u32_at-2.ensures, (sym c.u16_at-2.ensures, (omega (arith, c.u16_at.ensures, c.in_ok-actions.ensures.wide), both)))))));
      whole = omega (arith, wide, c.in_ok-actions.ensures.wide, c.in_ok-body.ensures.len);
    }
