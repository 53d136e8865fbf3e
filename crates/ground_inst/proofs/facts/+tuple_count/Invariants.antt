use Rattle.std.proofs.Common.{length}
use Rattle.ground_inst.proofs.facts.+tuple_count.Given as goal

abbrev pub decreases-tuple_count : goal.decreases-tuple_count
decreases-tuple_count l = length l.sorts.now
