use Rattle.std.proofs.Common.{subst, sym}
use Rattle.csdn_conditions.specs.declared.sentence.Condition.{Condition}
use Rattle.csdn_conditions.specs.Closed.{IsClosed}
use Rattle.csdn_conditions.proofs.ClosedConditions.{members_closed}
use Rattle.decide_ways_tests.proofs.tests.said_of.Goals as goal

pub by_all-requires-clause-hypothesis : goal.by_all-requires-clause-hypothesis
by_all-requires-clause-hypothesis c =
    let found = c.in-Ok.ensures in
    let closed = members_closed c.args.program.now c.parts.ensures.well_sorted c.args.level c.args.index found.condition found.there in
    subst (λ (z : Condition). IsClosed c.args.program.now z.hypothesis) (sym found.holds.0) closed.0

pub by_all-requires-clause-goal : goal.by_all-requires-clause-goal
by_all-requires-clause-goal c =
    let found = c.in-Ok.ensures in
    let closed = members_closed c.args.program.now c.parts.ensures.well_sorted c.args.level c.args.index found.condition found.there in
    subst (λ (z : Condition). IsClosed c.args.program.now z.goal) (sym found.holds.0) closed.1

pub by_asked-requires-clause-hypothesis : goal.by_asked-requires-clause-hypothesis
by_asked-requires-clause-hypothesis c =
    let found = c.in-Ok.ensures in
    let closed = members_closed c.args.program.now c.parts.ensures.well_sorted c.args.level c.args.index found.condition found.there in
    subst (λ (z : Condition). IsClosed c.args.program.now z.hypothesis) (sym found.holds.0) closed.0

pub by_asked-requires-clause-goal : goal.by_asked-requires-clause-goal
by_asked-requires-clause-goal c =
    let found = c.in-Ok.ensures in
    let closed = members_closed c.args.program.now c.parts.ensures.well_sorted c.args.level c.args.index found.condition found.there in
    subst (λ (z : Condition). IsClosed c.args.program.now z.goal) (sym found.holds.0) closed.1
