use Rattle.std.proofs.Common.{subst, sym}
use Rattle.form_trees.specs.Trees.{tree_form}
use Rattle.copy_truth.specs.Goals.{Keeps}
use Rattle.copy_truth.proofs.SearchLaws.{keeps_open}
use Rattle.copy_truth.proofs.searching.keep_open.Goals as goal

pub returns : goal.returns
returns c =
    λ env choice. subst (Keeps c.args.r.now (tree_form c.args.tree.now) env c.args.sight c.args.goals.now.items c.with_choice.result) (sym c.in_ok-push.ensures.items)
    (keeps_open c.args.r.now c.args.tree env c.args.x c.args.candidates c.count_of_candidates-count.result c.args.sight c.with_choice.result c.args.goals.now.items choice c.with_choice.ensures.is_true c.with_choice.ensures.best)
