use Rattle.std.proofs.Common.{refl}
use Rattle.fol_forms.proofs.RenumberTruth.{truth-renumbered}
use Rattle.fol_forms.proofs.laws.renumber_keeps_truth.Goals as goal

pub returns : goal.returns
returns c M F from e below = truth-renumbered M F (λ v. v) from e e (record { below = below; same = λ v h. refl })
