use Rattle.std.proofs.Common.{subst}
use Rattle.std.proofs.lemmas.Result.{IfOk-weaker}
use Rattle.form_trees.specs.Trees.{tree_form}
use Rattle.ground_inst.specs.Walk.{scope}
use Rattle.copy_truth.specs.Early.{HoldsElsewhere}
use Rattle.copy_truth.proofs.EarlySteps.{either_elsewhere}
use Rattle.copy_truth.proofs.misses.+misses.Goals as goal

pub either_misses-returns-clause-value : goal.either_misses-returns-clause-value
either_misses-returns-clause-value t c =
    IfOk-weaker c.misses-2.result _ _ (λ missed h. either_elsewhere c.args.r.now (scope c.args.env.now.items) c.args.x c.args.within (tree_form c.args.p.now) (tree_form c.args.q.now) c.in_ok-first.first missed
    c.in_ok-first.ensures.value (subst (λ xs. HoldsElsewhere c.args.r.now (tree_form c.args.q.now) (scope xs) c.args.x c.in_ok-first.first missed) c.in_ok-first.ensures.env h)) c.misses-2.ensures.value
