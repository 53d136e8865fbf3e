use Rattle.form_trees.specs.Trees.{tree_form}
use Rattle.copy_truth.proofs.PlainLaws.{plain_judged}
use Rattle.copy_truth.proofs.judging.judge_plain.Goals as goal

pub returns-clause-value : goal.returns-clause-value
returns-clause-value c base =
    plain_judged c.args.r.now (tree_form c.args.tree.now) c.args.env.now.items base c.requires.known c.requires.filled c.requires.plain c.in_ok-broken.broken c.open_binders.new.env.items c.in_ok-open_binders.ensures c.in_ok-broken.ensures.yes c.in_ok-broken.ensures.no
