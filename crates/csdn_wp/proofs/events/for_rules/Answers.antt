use Rattle.std.proofs.Common.{◌∙◌, ap, subst}
use Rattle.csdn_core.specs.declared.terms.Pred.TheVariants.{Ft}
use Rattle.csdn_core.specs.declared.syntax.Formula.TheVariants.{Atom}
use Rattle.fol_forms.specs.Limits.{most_nodes}
use Rattle.csdn_wp.specs.Makes.{Makes}
use Rattle.csdn_wp.proofs.Eventing.{rules_is}
use Rattle.csdn_wp.proofs.events.for_rules.Goals as goal

pub returns : goal.returns
returns c =
    subst (λ p. Makes most_nodes p c.closed_in.result)
    (rules_is c.in_ok-enabled.enabled c.args.formula c.in_ok-binds.binds c.in_ok-binds.ensures (c.in_ok-enabled.ensures ∙ ap (Atom Ft) c.flow_terms.ensures))
    c.closed_in.ensures
