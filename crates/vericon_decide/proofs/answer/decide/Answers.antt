use Rattle.std.proofs.Common.{subst}
use Rattle.csdn_conditions.specs.Answers.{OfCondition}
use Rattle.vericon_decide.specs.Levels.{IsFinding}
use Rattle.vericon_decide.proofs.AnswerLaws.{network_unmet, network_met, network_undecided}
use Rattle.vericon_decide.proofs.answer.decide.Goals as goal

pub returns-in-Valid : goal.returns-in-Valid
returns-in-Valid c =
    network_unmet c.args.program.now c.args.size c.in-Valid.proof c.parts.ensures.well_sorted
    (subst (λ z. OfCondition c.args.program.now 0 0 (λ d. IsFinding c.args.program.now c.args.size d z)) c.in-Valid.is c.in_ok-proof.ensures)

pub decide_levels-requires-clause-met : goal.decide_levels-requires-clause-met
decide_levels-requires-clause-met c =
    network_met c.args.program.now c.args.size _ c.parts.ensures.well_sorted
    (subst (λ z. OfCondition c.args.program.now 0 0 (λ d. IsFinding c.args.program.now c.args.size d z)) c.in-Broken.is c.in_ok-proof.ensures)

pub decide_rest-requires-clause-undecided : goal.decide_rest-requires-clause-undecided
decide_rest-requires-clause-undecided c =
    network_undecided c.args.program.now c.args.size c.args.most c.in-Undecided.why
    (subst (λ z. OfCondition c.args.program.now 0 0 (λ d. IsFinding c.args.program.now c.args.size d z)) c.in-Undecided.is c.in_ok-proof.ensures)
