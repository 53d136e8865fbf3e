use Rattle.std.proofs.Common.{subst}
use Rattle.csdn_conditions.specs.Answers.{OfCondition}
use Rattle.vericon_decide.specs.Levels.{IsFinding}
use Rattle.vericon_decide.proofs.LevelLaws.{none_valid, none_undecided, case_broken}
use Rattle.vericon_decide.proofs.findings.case_at.Goals as goal

pub returns-in-Valid : goal.returns-in-Valid
returns-in-Valid c =
    none_valid c.args.program.now c.args.size c.args.level c.args.index c.in-Valid.field-0
    (subst (λ z. OfCondition c.args.program.now c.args.level c.args.index (λ d. IsFinding c.args.program.now c.args.size d z)) c.in-Valid.is c.in_ok-finding_at.ensures)

pub returns-in-Broken : goal.returns-in-Broken
returns-in-Broken c =
    case_broken c.args.program.now c.args.size c.args.level c.args.index c.in-Broken.case
    (subst (λ z. OfCondition c.args.program.now c.args.level c.args.index (λ d. IsFinding c.args.program.now c.args.size d z)) c.in-Broken.is c.in_ok-finding_at.ensures)

pub returns : goal.returns
returns c =
    none_undecided c.args.program.now c.args.size c.args.level c.args.index c.in-Undecided.field-0
    (subst (λ z. OfCondition c.args.program.now c.args.level c.args.index (λ d. IsFinding c.args.program.now c.args.size d z)) c.in-Undecided.is c.in_ok-finding_at.ensures)
