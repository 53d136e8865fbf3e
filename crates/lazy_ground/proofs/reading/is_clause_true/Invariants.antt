use Rattle.std.proofs.Common.{◌≡◌, length}
use Rattle.clause_log.specs.Literals.{clause_true, truths}
use Rattle.lazy_ground.proofs.reading.is_clause_true.Given as goal

abbrev pub invariant-literals : goal.invariant-literals
invariant-literals l = clause_true (truths l.trues) l.literals ≡ clause_true (truths l.trues) l.rest

abbrev pub decreases-literals : goal.decreases-literals
decreases-literals l = length l.rest
