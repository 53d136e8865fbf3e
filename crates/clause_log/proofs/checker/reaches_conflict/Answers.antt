use Rattle.std.proofs.Common.{refl, get_or}
use Rattle.clause_log.specs.Refutations.{known}
use Rattle.clause_log.specs.Values.{assigned}
use Rattle.clause_log.proofs.Known.{hint_more}
use Rattle.clause_log.proofs.checker.reaches_conflict.Goals as goal

pub hints-preserved : goal.hints-preserved
hints-preserved c =
    hint_more (known c.args.clauses.now.clauses c.args.log.now c.args.at) (assigned c.hints.values) (assigned c.assign.new.values) c.hints.rest.now (get_or c.hints.rest.now 0 0) c.in-Some.clause.now c.in-Some-unit.forced _
    c.in-len1-up.len_at_least refl c.in-Some.ensures c.if-is_empty.ensures c.in-Some-unit.ensures c.in_ok-assign.ensures c.hints.invariant
