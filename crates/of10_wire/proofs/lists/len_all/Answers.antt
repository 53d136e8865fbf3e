use Rattle.std.proofs.Common.{arith}
use Rattle.of10_wire.proofs.Items.{width-next, width-more}
use Rattle.of10_wire.proofs.lists.len_all.Goals as goal

pub returns-then-len-ge65536 : goal.returns-then-len-ge65536
returns-then-len-ge65536 g c =
    let next = width-next g.P.Part.slots c.args.parts.now c.loop-part.part-index c.part-item.result c.part-item.result c.loop-part-test.true c.part-item.is in
    omega (arith, next, c.loop-part.invariant.0, c.len-len.ensures, c.if-len-ge65536.true)

pub loop-part-preserved : goal.loop-part-preserved
loop-part-preserved g c =
    let more = width-more g.P.Part.slots c.args.parts.now c.loop-part.part-index c.part-item.result c.part-item.result c.loop-part-test.true c.part-item.is in
    (omega (arith, more, c.loop-part.invariant.0, c.len-len.ensures, c.if-len-ge65536.false), c.if-len-ge65536.false)
