use Rattle.std.proofs.Common.{◌≡◌, drop}
use Rattle.clause_log.specs.Refutations.{known, steps_hold}
use Rattle.clause_log.proofs.checker.accepts.Given as goal

abbrev pub invariant-steps : goal.invariant-steps
invariant-steps l = steps_hold (known l.clauses.clauses l.log l.at) (drop l.at l.log) ≡ steps_hold l.clauses.clauses l.log
