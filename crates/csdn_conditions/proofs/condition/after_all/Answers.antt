use Rattle.csdn_core.specs.declared.syntax.Formula.{Formula}
use Rattle.fol_forms.specs.Limits.{most_nodes}
use Rattle.csdn_conditions.specs.Conditions.{after_event, after_events}
use Rattle.csdn_conditions.proofs.Growth.{refused_by_part}
use Rattle.csdn_conditions.proofs.Conditioned.{grows-event}
use Rattle.csdn_conditions.proofs.condition.after_all.Goals as goal

pub returns-in_err-after : goal.returns-in_err-after
returns-in_err-after c =
    let P = c.args.program.now in
    let after : Formula = after_events P c.args.level c.args.formula.now in
    refused_by_part most_nodes after (after_event P c.args.event after) _ c.from_residual.result (grows-event P c.args.event after) c.in_err-after.ensures c.from_residual.ensures.1
