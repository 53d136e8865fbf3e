use Rattle.net_structs.proofs.RowParts.{relation_rises}
use Rattle.net_structs.proofs.state.State.rows.Goals as goal

pub returns-clause-rising : goal.returns-clause-rising
returns-clause-rising c = relation_rises c.args.pred c.rows.rows c.rows.row-iterator _ _ c.rows.invariant c.in-None.ensures.steps.0 c.self.view_is c.self.invariant
