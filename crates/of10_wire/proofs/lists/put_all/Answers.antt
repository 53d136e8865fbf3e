use Rattle.std.proofs.Common.{arith}
use Rattle.of10_wire.proofs.Items.{written_more, width-next}
use Rattle.of10_wire.proofs.lists.put_all.Goals as goal

pub put-requires-clause-room : goal.put-requires-clause-room
put-requires-clause-room g c =
    let next = width-next g.P.Part.slots c.args.parts.now c.loop-part.part-index c.part-item.result c.part-item.result c.loop-part-test.true c.part-item.is in
    omega (arith, next, c.loop-part.invariant.front.len, c.loop-part.invariant.front.capacity, c.requires.room)

pub put-requires-clause-short : goal.put-requires-clause-short
put-requires-clause-short g c =
    let next = width-next g.P.Part.slots c.args.parts.now c.loop-part.part-index c.part-item.result c.part-item.result c.loop-part-test.true c.part-item.is in
    omega (arith, next, c.requires.short)

pub loop-part-preserved : goal.loop-part-preserved
loop-part-preserved g c =
    written_more g.P.Part.slots c.args.parts.now c.loop-part.part-index c.part-item.result c.part-item.result c.args.out.now c.loop-part.out c.put.new.out c.loop-part-test.true c.part-item.is c.loop-part.invariant c.put.ensures
