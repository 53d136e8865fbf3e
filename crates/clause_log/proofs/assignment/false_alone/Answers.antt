use Rattle.std.proofs.Common.{◌∙◌, ap}
use Rattle.clause_log.specs.Assignments.{assign}
use Rattle.clause_log.specs.Values.{assigned}
use Rattle.clause_log.proofs.Units.{false_more}
use Rattle.clause_log.proofs.assignment.false_alone.Goals as goal

pub literals-preserved : goal.literals-preserved
literals-preserved c =
    false_more (assigned c.literals.values) (assigned c.assign.new.values) c.literals.rest.now c.l-item.result _ c.in-len1-up.len_at_least c.l-item.is
    (c.in_ok-assign.ensures ∙ ap (λ l. assign l (assigned c.literals.values)) c.negated.ensures) c.literals.invariant
