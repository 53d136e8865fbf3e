use Rattle.std.proofs.Common.{◌∙◌, ap, sym}
use Rattle.csdn_core.specs.Tree.{universal, existential}
use Rattle.csdn_core.proofs.Shapes.{Forall-is, Exists-is}
use Rattle.fol_forms.specs.Written.{written}
use Rattle.fol_forms.proofs.normal.+made.Goals as goal

pub made-returns-in_ok-p-in-Forall : goal.made-returns-in_ok-p-in-Forall
made-returns-in_ok-p-in-Forall t c =
    Forall-is _ _ _ ∙ ap (universal c.in-Forall.var c.in-Forall.sort) c.in_ok-p-in-Forall.ensures ∙ ap written (sym c.in-Forall.ensures.form)

pub made-returns-in_ok-p-in-Exists : goal.made-returns-in_ok-p-in-Exists
made-returns-in_ok-p-in-Exists t c =
    Exists-is _ _ _ ∙ ap (existential c.in-Exists.var c.in-Exists.sort) c.in_ok-p-in-Exists.ensures ∙ ap written (sym c.in-Exists.ensures.form)
