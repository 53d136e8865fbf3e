use Rattle.std.proofs.Common.{◌≡◌, ◌+◌, ◌≤◌, suc, length, subst, arith}
use Rattle.csdn_conditions.specs.Answers.{OfCondition}
use Rattle.csdn_conditions.specs.Kinds.{kinds}
use Rattle.vericon_decide.specs.Levels.{IsCaseFound, NoneIsBrokenTo}
use Rattle.vericon_decide.proofs.AnswerLaws.{rest_goes_on, rest_breaks, rest_ends}
use Rattle.vericon_decide.proofs.answer.decide_rest.Goals as goal

pub returns-in-Some : goal.returns-in-Some
returns-in-Some c =
    let found = subst (λ z. OfCondition c.args.program.now c.args.most c.loop-later.later (λ d. IsCaseFound c.args.program.now c.args.size d z)) c.in-Some.is c.in_ok-case.ensures in
    rest_breaks c.args.program.now c.args.size c.args.most c.args.index c.loop-later.later c.args.why c.in-Some.case c.requires.undecided c.loop-later.invariant.0 c.loop-later.invariant.1 found

pub loop-later-preserved : goal.loop-later-preserved
loop-later-preserved c =
    let found = subst (λ z. OfCondition c.args.program.now c.args.most c.loop-later.later (λ d. IsCaseFound c.args.program.now c.args.size d z)) c.in_default.is c.in_ok-case.ensures in
    let next : suc c.loop-later.later ≡ c.loop-later.later + 1 = omega arith in
    (omega (arith, c.loop-later.invariant.0), subst (NoneIsBrokenTo c.args.program.now c.args.size c.args.most) next (rest_goes_on c.args.program.now c.args.size c.args.most c.loop-later.later c.loop-later.invariant.1 found))

pub returns : goal.returns
returns c =
    let past : length (kinds c.args.program.now c.args.most) ≤ c.loop-later.later = omega arith in
    rest_ends c.args.program.now c.args.size c.args.most c.args.index c.loop-later.later c.args.why c.requires.undecided past c.loop-later.invariant.1
