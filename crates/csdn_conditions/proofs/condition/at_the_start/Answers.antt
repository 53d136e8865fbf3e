use Rattle.csdn_core.specs.Tree.{conjunction}
use Rattle.fol_forms.specs.Limits.{most_nodes}
use Rattle.csdn_conditions.specs.Start.{start}
use Rattle.csdn_conditions.specs.Conditions.{topology}
use Rattle.csdn_conditions.proofs.Growth.{refused_by_part, fewer_left, fewer_right}
use Rattle.csdn_conditions.proofs.condition.at_the_start.Goals as goal

pub returns-in_err-topology : goal.returns-in_err-topology
returns-in_err-topology c =
    let P = c.args.program.now in
    refused_by_part most_nodes (topology P) (conjunction (topology P) (start P)) _ c.from_residual.result (fewer_left (topology P) (start P)) c.in_err-topology.ensures c.from_residual.ensures.1

pub returns-in_err-start : goal.returns-in_err-start
returns-in_err-start c =
    let P = c.args.program.now in
    refused_by_part most_nodes (start P) (conjunction (topology P) (start P)) _ c.from_residual-in_err-start.result (fewer_right (topology P) (start P)) c.in_err-start.ensures c.from_residual-in_err-start.ensures.1
