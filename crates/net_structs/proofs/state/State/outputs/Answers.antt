use Rattle.net_structs.proofs.RowParts.{ranged}
use Rattle.net_structs.proofs.state.State.outputs.Goals as goal

pub rows-init : goal.rows-init
rows-init c =
    ranged c.args.key.now c.past.result c.past.ensures c.of.result c.new-ports.result c.into_iter-row-iterator.result c.range-row-items.result _ _
    c.new-ports.ensures c.into_iter-row-iterator.ensures.into_iter_gives (c.range-row-items.ensures.between tt) c.of.ensures c.self.view_is
