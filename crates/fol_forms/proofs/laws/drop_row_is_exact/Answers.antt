use Rattle.fol_forms.proofs.Replaced.{truth-drop_row}
use Rattle.fol_forms.proofs.laws.drop_row_is_exact.Goals as goal

pub returns : goal.returns
returns c = truth-drop_row
