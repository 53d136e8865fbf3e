use Rattle.std.proofs.Common.{length}
use Rattle.clause_search.specs.Trails.{values_of}
use Rattle.clause_search.proofs.Clauses.{IsScanned}
use Rattle.clause_search.proofs.clause.verdict_of.Given as goal

abbrev pub invariant-literals : goal.invariant-literals
invariant-literals l = IsScanned (values_of l.trail) l.found l.rest l.clause

abbrev pub decreases-literals : goal.decreases-literals
decreases-literals l = length l.rest
