use Rattle.std.proofs.Common.{true, false}
use Rattle.ground_inst.specs.Walk.{scope}
use Rattle.copy_truth.proofs.EarlySteps.{known_throughout}
use Rattle.copy_truth.proofs.literals.known_outlook.Goals as goal

pub returns-then-branch : goal.returns-then-branch
returns-then-branch c =
    known_throughout c.args.r.now (scope c.args.env.now) c.args.sign c.args.leaf.now c.in_ok-judge_leaf.field-0 true c.requires c.in_ok-judge_leaf.ensures c.if-branch.true

pub returns : goal.returns
returns c =
    known_throughout c.args.r.now (scope c.args.env.now) c.args.sign c.args.leaf.now c.in_ok-judge_leaf.field-0 false c.requires c.in_ok-judge_leaf.ensures c.if-branch.false
