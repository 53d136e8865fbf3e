use Rattle.std.proofs.Common.{◌≤◌, ◌+◌, length, drop, ap, arith, length-drop}
use Rattle.of10_wire.specs.Layout.{Stand}
use Rattle.of10_wire.proofs.Items.{read_none, read_more}
use Rattle.of10_wire.proofs.lists.items.Goals as goal

pub loop-at-init : goal.loop-at-init
loop-at-init g c = rw c.new-list.ensures.items (read_none g.I.Part.slots c.args.bytes.now)

pub loop-at-preserved : goal.loop-at-preserved
loop-at-preserved g c =
    let read = c.in_ok-item.ensures in
    let stand : Stand 0 (g.I.Part.slots c.in_ok-item.item) (drop c.loop-at.at c.args.bytes.now) = rw (← c.rest_from.ensures) read.stand in
    let le : c.loop-at.at + c.in_ok-item.len ≤ length c.args.bytes.now = omega (arith, ap length c.rest_from.ensures, length-drop c.loop-at.at c.args.bytes.now, read.within, c.loop-at.invariant.within) in
    rw c.in_ok-push.ensures.items (read_more g.I.Part.slots c.loop-at.list.items c.in_ok-item.item c.loop-at.at c.in_ok-item.len c.args.bytes.now c.loop-at.invariant stand read.wide le)
