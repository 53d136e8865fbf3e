use Rattle.std.proofs.Common.{◌∙◌}
use Rattle.fol_forms.proofs.Copied.{instances-of_counts}
use Rattle.fol_forms.proofs.instances.instance_count.Goals as goal

pub returns : goal.returns
returns c =
    c.instances.ensures
    ∙ instances-of_counts c.args.program.now c.parts.result.now c.args.formula.now c.constants_of-counts.result c.parts.ensures.value c.constants_of-counts.ensures
