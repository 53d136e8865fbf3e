use Rattle.std.proofs.Common.{ap, sym, ◌∙◌, Some}
use Rattle.std.proofs.lemmas.Result.{on_ok_weaker}
use Rattle.form_trees.specs.Trees.{tree_form}
use Rattle.lazy_ground.proofs.WholeFound.{whole_found_false, whole_found_nodes, whole_found_true}
use Rattle.lazy_ground.proofs.adding.find_copies.Goals as goal

pub returns-in-Some-true : goal.returns-in-Some-true
returns-in-Some-true c =
    whole_found_true c.args.r.now (tree_form c.args.tree.now) c.args.rows.now (sym c.tree_value.ensures ∙ c.in-Some-true.is ∙ ap Some c.in-Some-true.field-0-test)

pub returns-in-Some-false : goal.returns-in-Some-false
returns-in-Some-false c =
    on_ok_weaker c.push.result (λ e.
    whole_found_false c.args.r.now (tree_form c.args.tree.now) c.args.rows.now _ (sym c.tree_value.ensures ∙ c.in-Some-false.is ∙ ap Some c.in-Some-false.field-0-test) e) c.push.ensures

pub returns-in-None : goal.returns-in-None
returns-in-None c =
    on_ok_weaker c.find_nodes.result (λ h.
    whole_found_nodes c.args.r.now (tree_form c.args.tree.now) c.args.rows.now c.find_nodes.new.rows (sym c.tree_value.ensures ∙ c.in-None.is) h) c.find_nodes.ensures
