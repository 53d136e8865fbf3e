use Rattle.std.proofs.Common.{◌≡◌, length}
use Rattle.net_structs.specs.Networks.{put_in_order}
use Rattle.net_structs.specs.Rows.{row_cmp}
use Rattle.class_networks.specs.Made.{stored_rows}
use Rattle.class_networks.proofs.sides.put_stored.Given as goal

abbrev pub invariant-rows : goal.invariant-rows
invariant-rows l = put_in_order row_cmp l.state (stored_rows l.parts l.rest) ≡ put_in_order row_cmp l.fn.state (stored_rows l.parts l.fn.rows)

abbrev pub decreases-rows : goal.decreases-rows
decreases-rows l = length l.rest
