use Rattle.std.proofs.Common.{◌+◌, ◌-◌, length}
use Rattle.clause_log.specs.Refutations.{with_steps}
use Rattle.clause_search.specs.Trails.{Extends}
use Rattle.clause_search.proofs.propagate.spread.Given as goal

abbrev pub invariant-literals : goal.invariant-literals
invariant-literals l = Extends l.clauses.atoms (with_steps l.clauses.clauses l.log) l.fn.trail l.trail

abbrev pub decreases-literals : goal.decreases-literals
decreases-literals l = length l.fn.trail + l.clauses.atoms - l.next
