use Rattle.std.proofs.Common.{subst, sym}
use Rattle.form_trees.specs.Trees.{tree_form}
use Rattle.ground_inst.specs.Walk.{scope}
use Rattle.copy_truth.specs.Early.{leaf_form}
use Rattle.copy_truth.specs.Outlook.{IsOutlook}
use Rattle.copy_truth.specs.declared.literals.Outlook.TheVariants.{Open}
use Rattle.copy_truth.proofs.SearchLaws.{open_choice}
use Rattle.copy_truth.proofs.searching.keep_leaf.Goals as goal

pub returns-in-Open-clause-sight : goal.returns-in-Open-clause-sight
returns-in-Open-clause-sight c =
    let env = scope c.args.env.now.items in
    let seen : IsOutlook c.args.r.now (tree_form c.args.tree.now) env (Open c.in-Open.x c.in-Open.candidates) =
    subst (λ f. IsOutlook c.args.r.now f env (Open c.in-Open.x c.in-Open.candidates)) (sym c.requires) (subst (IsOutlook c.args.r.now (leaf_form c.args.sign c.args.leaf.now) env) c.in-Open.is c.in_ok-leaf_outlook.ensures.value) in
    c.keep_open.ensures env (open_choice c.args.r.now (tree_form c.args.tree.now) env c.in-Open.x c.in-Open.candidates seen.0 seen.1)
