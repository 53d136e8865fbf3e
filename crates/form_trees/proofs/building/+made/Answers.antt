use Rattle.std.proofs.Common.{◌∙◌, ap, ap₂}
use Rattle.fol_forms.specs.Forms.{normal_form}
use Rattle.fol_forms.specs.Names.{new_numbers}
use Rattle.fol_forms.proofs.Numbered.{new_numbers_push}
use Rattle.form_trees.specs.Numbered.{numbered_from}
use Rattle.form_trees.proofs.building.+made.Goals as goal

pub under-returns-clause-form : goal.under-returns-clause-form
under-returns-clause-form t c =
    let numbers = c.args.numbers.now in
    c.in_ok-body.ensures.form ∙ ap₂ (λ new k. numbered_from new k (normal_form c.args.sign c.args.formula.now)) (ap new_numbers c.in_ok-push.ensures.items ∙ new_numbers_push numbers.scope.items (record { var = c.args.var; number = numbers.next })) c.in_ok-numbers.ensures
