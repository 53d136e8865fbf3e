use Rattle.net_structs.specs.Rows.{held}
use Rattle.net_structs.proofs.Taken.{row_goes, rows_gone}
use Rattle.net_structs.proofs.state.State.remove_all.Goals as goal

pub rows-preserved : goal.rows-preserved
rows-preserved c =
    row_goes (held c.rows.self) (held c.remove.new.self) _ c.in-Some.row.now c.rows.row-iterator c.next.new.self c.in-Some.ensures.steps c.remove.ensures.taken c.rows.invariant

pub returns : goal.returns
returns c = rows_gone (held c.rows.self) _ c.rows.row-iterator c.in-None.ensures.steps.0 c.rows.invariant
