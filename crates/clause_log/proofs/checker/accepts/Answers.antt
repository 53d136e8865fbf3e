use Rattle.std.proofs.Common.{arith}
use Rattle.clause_log.proofs.Sound.{accepted, refutation_sound}
use Rattle.clause_log.proofs.checker.accepts.Goals as goal

pub returns-clause-sound : goal.returns-clause-sound
returns-clause-sound c =
    λ t. refutation_sound c.args.clauses.now.clauses c.args.log.now (accepted c.args.clauses.now.clauses c.args.log.now c.steps.at c.ends_empty.result (omega (arith, c.len-count.ensures, c.steps-test.false)) c.steps.invariant c.ends_empty.ensures t)
