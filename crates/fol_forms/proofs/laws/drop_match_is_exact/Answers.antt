use Rattle.fol_forms.proofs.Expired.{truth-drop_match}
use Rattle.fol_forms.proofs.laws.drop_match_is_exact.Goals as goal

pub returns : goal.returns
returns c M s a b i e F fits out = truth-drop_match M s a b i e F fits out
