use Rattle.std.proofs.Common.{◌≡◌, length}
use Rattle.ground_inst.specs.Facts.{sorts_in}
use Rattle.ground_inst.proofs.facts.sorts_of_used.Given as goal

abbrev pub invariant-relations : goal.invariant-relations
invariant-relations l = sorts_in l.rest l.relation ≡ sorts_in l.facts.relations l.relation

abbrev pub decreases-relations : goal.decreases-relations
decreases-relations l = length l.rest
