use Rattle.std.proofs.Common.{◌≡◌, length}
use Rattle.copy_truth.specs.Early.{used_in}
use Rattle.copy_truth.proofs.tuples.used_of.Given as goal

abbrev pub invariant-relations : goal.invariant-relations
invariant-relations l = used_in l.facts.relations l.relation ≡ used_in l.rest l.relation

abbrev pub decreases-relations : goal.decreases-relations
decreases-relations l = length l.rest
