use Rattle.of10_wire.proofs.Items.{IsWritten}
use Rattle.of10_wire.proofs.lists.put_all.Given as goal

abbrev pub invariant-loop-part : goal.invariant-loop-part
invariant-loop-part g l = IsWritten g.P.Part.slots l.parts l.part-index l.fn.out l.out
