use Rattle.std.proofs.Common.{subst, sym, Err}
use Rattle.fol_forms.specs.declared.refusal.FormRefusal.{FormRefusal}
use Rattle.csdn_conditions.specs.declared.sentence.Condition.{Condition}
use Rattle.csdn_conditions.specs.Closed.{IsClosed}
use Rattle.csdn_conditions.specs.Answers.{Answers, OfCondition}
use Rattle.csdn_conditions.proofs.ClosedConditions.{members_closed}
use Rattle.vericon_decide.specs.Levels.{IsFinding}
use Rattle.vericon_decide.proofs.LevelLaws.{found_there, large_there}
use Rattle.vericon_decide.proofs.findings.finding_at.Goals as goal

pub decide_condition-requires-clause-hypothesis : goal.decide_condition-requires-clause-hypothesis
decide_condition-requires-clause-hypothesis c =
    let found = c.in-Ok.ensures in
    let closed = members_closed c.args.program.now c.parts.ensures.well_sorted c.args.level c.args.index found.condition found.there in
    subst (λ (z : Condition). IsClosed c.args.program.now z.hypothesis) (sym found.holds.0) closed.0

pub decide_condition-requires-clause-goal : goal.decide_condition-requires-clause-goal
decide_condition-requires-clause-goal c =
    let found = c.in-Ok.ensures in
    let closed = members_closed c.args.program.now c.parts.ensures.well_sorted c.args.level c.args.index found.condition found.there in
    subst (λ (z : Condition). IsClosed c.args.program.now z.goal) (sym found.holds.0) closed.1

pub returns-in_ok-decide_condition-in-Ok : goal.returns-in_ok-decide_condition-in-Ok
returns-in_ok-decide_condition-in-Ok c =
    subst (λ z. OfCondition c.args.program.now c.args.level c.args.index (λ d. IsFinding c.args.program.now c.args.size d z)) (sym c.finding_of.ensures)
    (found_there c.args.program.now c.args.size c.args.level c.args.index c.in-Ok.condition c.in_ok-decide_condition-in-Ok.field-0 c.in-Ok.ensures c.in_ok-decide_condition-in-Ok.ensures)

pub returns-in-Err-Large : goal.returns-in-Err-Large
returns-in-Err-Large c =
    large_there c.args.program.now c.args.size c.args.level c.args.index
    (subst (λ (e : FormRefusal). OfCondition c.args.program.now c.args.level c.args.index (λ d. Answers d (Err e))) c.in-Err-Large.field-0-is c.in-Err-Large.ensures)
