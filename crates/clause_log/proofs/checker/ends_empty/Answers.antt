use Rattle.std.proofs.Common.{◌-◌, arith}
use Rattle.clause_log.proofs.Known.{last_empty}
use Rattle.clause_log.proofs.checker.ends_empty.Goals as goal

pub returns : goal.returns
returns c = last_empty c.args.log.now (c.len-count.result - 1) c.literals.result.now c.is_empty.result (omega (arith, c.len-count.ensures, c.if-count-eq0.false)) c.literals.ensures.value c.is_empty.ensures
