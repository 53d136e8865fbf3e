use Rattle.std.proofs.Common.{subst, sym}
use Rattle.csdn_conditions.specs.declared.sentence.Condition.{Condition}
use Rattle.csdn_conditions.specs.Answers.{Answers}
use Rattle.csdn_conditions.specs.Closed.{IsClosed}
use Rattle.csdn_conditions.proofs.ClosedConditions.{members_closed}
use Rattle.class_networks_tests.proofs.tests.broken_in.Goals as goal

pub broken_condition-requires-clause-hypothesis : goal.broken_condition-requires-clause-hypothesis
broken_condition-requires-clause-hypothesis c =
    let found = c.condition.ensures in
    let closed = members_closed c.args.program.now c.parts.ensures.well_sorted 0 c.args.index found.condition found.there in
    subst (λ (z : Condition). IsClosed c.args.program.now z.hypothesis) (sym (subst (Answers found.condition) c.in-Ok.is found.holds).0) closed.0

pub broken_condition-requires-clause-goal : goal.broken_condition-requires-clause-goal
broken_condition-requires-clause-goal c =
    let found = c.condition.ensures in
    let closed = members_closed c.args.program.now c.parts.ensures.well_sorted 0 c.args.index found.condition found.there in
    subst (λ (z : Condition). IsClosed c.args.program.now z.goal) (sym (subst (Answers found.condition) c.in-Ok.is found.holds).0) closed.1
