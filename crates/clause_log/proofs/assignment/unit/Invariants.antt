use Rattle.std.proofs.Common.{length}
use Rattle.clause_log.specs.Assignments.{unit_literal}
use Rattle.clause_log.specs.Values.{assigned}
use Rattle.clause_log.proofs.Units.{IsUnitOf}
use Rattle.clause_log.proofs.assignment.unit.Given as goal

abbrev pub invariant-literals : goal.invariant-literals
invariant-literals l = IsUnitOf (assigned l.values) l.found l.rest (unit_literal (assigned l.values) l.clause)

abbrev pub decreases-literals : goal.decreases-literals
decreases-literals l = length l.rest
