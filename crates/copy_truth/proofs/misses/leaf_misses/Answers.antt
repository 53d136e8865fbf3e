use Rattle.std.proofs.Common.{ap, sym, ◌∙◌}
use Rattle.ground_inst.specs.Walk.{scope, ways_of}
use Rattle.copy_truth.specs.Early.{is_known_leaf, leaf_form}
use Rattle.copy_truth.specs.Matrix.{matrix}
use Rattle.copy_truth.proofs.EarlySteps.{known_elsewhere}
use Rattle.copy_truth.proofs.misses.leaf_misses.Goals as goal

pub returns-then-branch-clause-value : goal.returns-then-branch-clause-value
returns-then-branch-clause-value c =
    let known = ap (λ xs. is_known_leaf (ways_of c.args.r.now.names).voc (scope xs) c.args.leaf.now) (sym c.deref.ensures.value) ∙ sym c.is_known_leaf.ensures ∙ c.if-not-is_known_leaf.false in
    known_elsewhere c.args.r.now (scope c.args.env.now.items) c.args.x c.args.within c.args.sign c.args.leaf.now c.fewest.result c.in_ok-judge_leaf.field-0 known
    (c.in_ok-judge_leaf.ensures ∙ ap (λ xs. matrix c.args.r.now (leaf_form c.args.sign c.args.leaf.now) (scope xs)) c.deref-2.ensures.value) c.if-branch.true
