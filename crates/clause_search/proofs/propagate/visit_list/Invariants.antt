use Rattle.std.proofs.Common.{◌-◌, length}
use Rattle.clause_log.specs.Refutations.{with_steps}
use Rattle.clause_search.specs.Trails.{Extends}
use Rattle.clause_search.proofs.propagate.visit_list.Given as goal

abbrev pub invariant-watches : goal.invariant-watches
invariant-watches l = Extends l.clauses.atoms (with_steps l.clauses.clauses l.log) l.fn.trail l.trail

abbrev pub decreases-watches : goal.decreases-watches
decreases-watches l = length l.list.items - l.at
