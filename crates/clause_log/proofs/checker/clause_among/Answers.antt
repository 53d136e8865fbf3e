use Rattle.std.proofs.Common.{◌-◌, ◌∙◌, Some, ap, arith}
use Rattle.clause_log.proofs.Known.{clause_of_step, clause_past}
use Rattle.clause_log.proofs.checker.clause_among.Goals as goal

pub returns-then-step-steps : goal.returns-then-step-steps
returns-then-step-steps c =
    ap Some c.literals.ensures.value
    ∙ clause_of_step c.args.clauses.now.clauses c.args.log.now c.args.steps (c.args.number - 1 - c.len-count.result) c.args.number (omega (arith, c.len-count.ensures, c.if-number-eq0.false, c.if-at-count.false)) c.if-step-steps.true c.requires

pub returns-else-step-steps : goal.returns-else-step-steps
returns-else-step-steps c =
    clause_past c.args.clauses.now.clauses c.args.log.now c.args.steps (c.args.number - 1 - c.len-count.result) c.args.number (omega (arith, c.len-count.ensures, c.if-number-eq0.false, c.if-at-count.false)) c.if-step-steps.false
