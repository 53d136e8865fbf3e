use Rattle.fol_forms.proofs.ClosedTruth.{truth-closed}
use Rattle.fol_forms.proofs.laws.close_is_exact.Goals as goal

pub returns : goal.returns
returns c = truth-closed
