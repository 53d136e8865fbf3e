use Rattle.std.proofs.Common.{ap, sym, ◌++◌, ◌∙◌, append-nil, Some}
use Rattle.std.proofs.lemmas.Result.{on_ok_weaker}
use Rattle.fol_forms.specs.Counts.{count_of}
use Rattle.form_trees.specs.Trees.{tree_form}
use Rattle.ground_inst.specs.Facts.{num_of}
use Rattle.lazy_ground.proofs.OpenWhole.{open_true, open_false, open_nodes}
use Rattle.lazy_ground.proofs.opening.write_open.Goals as goal

pub returns-in-Some-true : goal.returns-in-Some-true
returns-in-Some-true c =
    sym (append-nil c.args.rows.now)
    ∙ ap (λ z. c.args.rows.now ++ z) (sym (open_true c.args.parts.now (count_of c.args.facts.now.counts) (num_of c.args.facts.now) _ (tree_form c.args.tree.now) (sym c.tree_value.ensures ∙ c.in-Some-true.is ∙ ap Some c.in-Some-true.field-0-test)))

pub returns-in-Some-false : goal.returns-in-Some-false
returns-in-Some-false c =
    on_ok_weaker c.push.result (λ e. e
    ∙ ap (λ z. c.args.rows.now ++ z) (sym (open_false c.args.parts.now (count_of c.args.facts.now.counts) (num_of c.args.facts.now) _ (tree_form c.args.tree.now) (sym c.tree_value.ensures ∙ c.in-Some-false.is ∙ ap Some c.in-Some-false.field-0-test)))) c.push.ensures

pub returns-in-None : goal.returns-in-None
returns-in-None c =
    on_ok_weaker c.write_nodes.result (λ e. e
    ∙ ap (λ z. c.args.rows.now ++ z) (sym (open_nodes c.args.parts.now (count_of c.args.facts.now.counts) (num_of c.args.facts.now) _ (tree_form c.args.tree.now) (sym c.tree_value.ensures ∙ c.in-None.is)))) c.write_nodes.ensures
