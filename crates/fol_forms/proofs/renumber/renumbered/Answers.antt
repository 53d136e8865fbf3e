use Rattle.std.proofs.Common.{◌≡◌, IfOk, subst}
use Rattle.fol_forms.specs.Names.{new_numbers}
use Rattle.fol_forms.specs.Renumber.{renumbered}
use Rattle.fol_forms.proofs.renumber.renumbered.Goals as goal

pub returns : goal.returns
returns c =
    subst (λ n. IfOk c.made.result (λ p. p ≡ renumbered (λ v. v) n c.args.formula.now)) c.from.ensures
    (subst (λ rs. IfOk c.made.result (λ p. p ≡ renumbered (new_numbers rs) c.from.result c.args.formula.now)) c.new.ensures.items c.made.ensures.form)
