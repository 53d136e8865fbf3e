use Rattle.std.proofs.Common.{◌≡◌, length}
use Rattle.clause_log.specs.Assignments.{no_values, with_false}
use Rattle.clause_log.specs.Values.{assigned}
use Rattle.clause_log.proofs.assignment.false_alone.Given as goal

abbrev pub invariant-literals : goal.invariant-literals
invariant-literals l = with_false (assigned l.values) l.rest ≡ with_false no_values l.literals

abbrev pub decreases-literals : goal.decreases-literals
decreases-literals l = length l.rest
