use Rattle.csdn_core.specs.Tree.{conjunction}
use Rattle.fol_forms.specs.Limits.{most_nodes}
use Rattle.csdn_wp.specs.EventPreconditions.{wp_flow, wp_expire}
use Rattle.csdn_conditions.proofs.Growth.{refused_by_part, fewer_left, fewer_right}
use Rattle.csdn_conditions.proofs.after.after_flow_and_expiry.Goals as goal

pub returns-in_err-flow : goal.returns-in_err-flow
returns-in_err-flow c =
    let q = c.args.formula.now in
    refused_by_part most_nodes (wp_flow q) (conjunction (wp_flow q) (wp_expire q)) _ c.from_residual.result (fewer_left (wp_flow q) (wp_expire q)) c.in_err-flow.ensures c.from_residual.ensures.1

pub returns-in_err-expire : goal.returns-in_err-expire
returns-in_err-expire c =
    let q = c.args.formula.now in
    refused_by_part most_nodes (wp_expire q) (conjunction (wp_flow q) (wp_expire q)) _ c.from_residual-in_err-expire.result (fewer_right (wp_flow q) (wp_expire q)) c.in_err-expire.ensures c.from_residual-in_err-expire.ensures.1
