use Rattle.clause_log.specs.Refutations.{with_steps}
use Rattle.clause_search.specs.Trails.{Extends}
use Rattle.clause_search.proofs.propagate.visit_each.Given as goal

abbrev pub invariant-clauses : goal.invariant-clauses
invariant-clauses l = Extends l.clauses.atoms (with_steps l.clauses.clauses l.log) l.fn.trail l.trail
