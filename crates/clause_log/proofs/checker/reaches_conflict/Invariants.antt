use Rattle.std.proofs.Common.{◌≡◌, length}
use Rattle.std.specs.Prelude.{slice_index_or}
use Rattle.clause_log.specs.Refutations.{known, no_step, reaches_conflict}
use Rattle.clause_log.specs.Values.{assigned}
use Rattle.clause_log.proofs.checker.reaches_conflict.Given as goal

abbrev pub invariant-hints : goal.invariant-hints
invariant-hints l =
    reaches_conflict (known l.clauses.clauses l.log l.at) l.rest (assigned l.values) ≡ reaches_conflict (known l.clauses.clauses l.log l.at) (slice_index_or l.log l.at no_step).hints (assigned l.fn.values)

abbrev pub decreases-hints : goal.decreases-hints
decreases-hints l = length l.rest
