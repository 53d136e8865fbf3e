use Rattle.std.proofs.Common.{◌-◌}
use Rattle.clause_search.specs.Trails.{power, trail_number}
use Rattle.clause_search.specs.Searches.{IsSearch}
use Rattle.clause_search.proofs.search.solve_dense.Given as goal

abbrev pub invariant-turns : goal.invariant-turns
invariant-turns l = IsSearch l.clauses l.log l.trail

abbrev pub decreases-turns : goal.decreases-turns
decreases-turns l = power l.clauses.atoms - trail_number l.clauses.atoms l.trail
