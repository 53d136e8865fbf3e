use Rattle.std.proofs.Common.{Ok, Err}
use Rattle.fol_forms.specs.declared.refusal.FormRefusal.TheVariants.{Large}
use Rattle.csdn_conditions.specs.declared.sentence.Condition.{Condition}
use Rattle.csdn_conditions.specs.Conditions.{condition}
use Rattle.csdn_conditions.proofs.Conditioned.{answer_of, refused_by_hypothesis, refused_by_goal, sentence_large, sentence_small, made_of}
use Rattle.csdn_conditions.proofs.condition.condition.Goals as goal

pub returns-in_err-hypothesis : goal.returns-in_err-hypothesis
returns-in_err-hypothesis c =
    let asked : Condition = condition c.args.program.now c.args.level c.condition_kind-kind.result in
    answer_of c.args.program.now c.args.level c.args.index c.condition_kind-kind.result c.from_residual.result c.condition_kind-kind.ensures.there
    (refused_by_hypothesis asked _ c.from_residual.result c.in_err-hypothesis.ensures c.from_residual.ensures.1)

pub returns-in_err-goal : goal.returns-in_err-goal
returns-in_err-goal c =
    let asked : Condition = condition c.args.program.now c.args.level c.condition_kind-kind.result in
    answer_of c.args.program.now c.args.level c.args.index c.condition_kind-kind.result c.from_residual-in_err-goal.result c.condition_kind-kind.ensures.there
    (refused_by_goal asked _ c.from_residual-in_err-goal.result c.in_err-goal.ensures c.from_residual-in_err-goal.ensures.1)

pub returns-then-sum-gt-MOST_NODES : goal.returns-then-sum-gt-MOST_NODES
returns-then-sum-gt-MOST_NODES c =
    let asked : Condition = condition c.args.program.now c.args.level c.condition_kind-kind.result in
    answer_of c.args.program.now c.args.level c.args.index c.condition_kind-kind.result (Err Large) c.condition_kind-kind.ensures.there
    (sentence_large asked c.in_ok-hypothesis.hypothesis c.in_ok-goal.goal c.node_count.result c.node_count-2.result c.sum-nodes.result c.sum.result
    c.in_ok-hypothesis.ensures.0 c.in_ok-goal.ensures.0 c.node_count.ensures c.node_count-2.ensures c.sum-nodes.ensures c.sum.ensures c.if-sum-gt-MOST_NODES.true)

pub returns : goal.returns
returns c =
    let asked : Condition = condition c.args.program.now c.args.level c.condition_kind-kind.result in
    answer_of c.args.program.now c.args.level c.args.index c.condition_kind-kind.result
    (Ok (record { kind = c.condition_kind-kind.result; hypothesis = c.in_ok-hypothesis.hypothesis; goal = c.in_ok-goal.goal }))
    c.condition_kind-kind.ensures.there (
      made_of c.args.program.now c.args.level c.condition_kind-kind.result c.in_ok-hypothesis.hypothesis c.in_ok-goal.goal c.in_ok-hypothesis.ensures.0 c.in_ok-goal.ensures.0,
      sentence_small asked c.in_ok-hypothesis.hypothesis c.in_ok-goal.goal c.node_count.result c.node_count-2.result c.sum-nodes.result c.sum.result
          c.in_ok-hypothesis.ensures.0 c.in_ok-goal.ensures.0 c.node_count.ensures c.node_count-2.ensures c.sum-nodes.ensures c.sum.ensures c.if-sum-gt-MOST_NODES.false,
    )
