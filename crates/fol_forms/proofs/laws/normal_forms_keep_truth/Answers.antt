use Rattle.fol_forms.proofs.WrittenTruth.{truth-normal_form, normal_form-written}
use Rattle.fol_forms.proofs.laws.normal_forms_keep_truth.Goals as goal

pub returns-clause-truth : goal.returns-clause-truth
returns-clause-truth c = truth-normal_form

pub returns-clause-again : goal.returns-clause-again
returns-clause-again c = normal_form-written
