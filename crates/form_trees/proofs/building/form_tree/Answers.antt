use Rattle.std.proofs.Common.{◌≡◌, IfOk, subst}
use Rattle.fol_forms.specs.Forms.{form_of}
use Rattle.fol_forms.specs.Names.{new_numbers}
use Rattle.form_trees.specs.Numbered.{numbered_from}
use Rattle.form_trees.specs.Trees.{tree_form}
use Rattle.form_trees.proofs.building.form_tree.Goals as goal

pub returns-clause-form : goal.returns-clause-form
returns-clause-form c =
    subst (λ rs. IfOk c.made.result (λ tree. tree_form tree ≡ numbered_from (new_numbers rs) 0 (form_of c.args.formula.now))) c.new.ensures.items c.made.ensures.form
