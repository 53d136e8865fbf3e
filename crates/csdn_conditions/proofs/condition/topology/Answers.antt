use Rattle.std.proofs.Common.{◌∙◌, ap, List, subst}
use Rattle.csdn_core.specs.declared.syntax.Formula.{Formula}
use Rattle.fol_forms.specs.Limits.{most_nodes}
use Rattle.csdn_wp.specs.Makes.{Makes}
use Rattle.csdn_conditions.specs.Lists.{conjunction_of}
use Rattle.csdn_conditions.specs.Conditions.{formulas}
use Rattle.csdn_conditions.proofs.Conditioned.{all_after_none}
use Rattle.csdn_conditions.proofs.condition.topology.Goals as goal

pub returns : goal.returns
returns c =
    let P = c.args.program.now in
    subst (λ (ps : List Formula). Makes most_nodes (conjunction_of ps) c.all_after.result)
    (all_after_none P (formulas c.as_slice.result.now) ∙ ap formulas (c.as_slice.ensures ∙ ap (λ p. p.topology) c.parts-parts.ensures.value)) c.all_after.ensures
