use Rattle.std.proofs.Common.{length}
use Rattle.clause_log.specs.Refutations.{with_steps}
use Rattle.clause_search.specs.Cuts.{mark_of, IsWalked}
use Rattle.clause_search.proofs.cut.walk.Given as goal

abbrev pub invariant-entries : goal.invariant-entries
invariant-entries l = IsWalked (with_steps l.clauses.clauses l.log) l.trail l.rest (mark_of l.marks) l.hints.items

abbrev pub decreases-entries : goal.decreases-entries
decreases-entries l = length l.rest
