use Rattle.fol_forms.proofs.Numbered.{new_numbers_push}
use Rattle.fol_forms.proofs.renumber.+made.Goals as goal

pub under-returns-clause-body : goal.under-returns-clause-body
under-returns-clause-body t c = rw (c.in_ok-body.ensures.form, c.in_ok-push.ensures.items, new_numbers_push, c.numbered-number.ensures)
