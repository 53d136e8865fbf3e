use Rattle.fol_forms.proofs.Flooded.{truth-add_flood}
use Rattle.fol_forms.proofs.laws.add_flood_is_exact.Goals as goal

pub returns : goal.returns
returns c M s a b i e F Γ ported out keeps = truth-add_flood M e s a b i Γ F ported out keeps
