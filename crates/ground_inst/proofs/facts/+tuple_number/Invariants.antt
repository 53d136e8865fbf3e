use Rattle.std.proofs.Common.{length}
use Rattle.ground_inst.proofs.facts.+tuple_number.Given as goal

abbrev pub decreases-tuple_number : goal.decreases-tuple_number
decreases-tuple_number l = length l.sorts.now
