use Rattle.std.proofs.Common.{◌≡◌, length}
use Rattle.clause_log.specs.Assignments.{is_conflict}
use Rattle.clause_log.specs.Values.{assigned}
use Rattle.clause_log.proofs.assignment.is_conflict.Given as goal

abbrev pub invariant-literals : goal.invariant-literals
invariant-literals l = is_conflict (assigned l.values) l.rest ≡ is_conflict (assigned l.values) l.clause

abbrev pub decreases-literals : goal.decreases-literals
decreases-literals l = length l.rest
