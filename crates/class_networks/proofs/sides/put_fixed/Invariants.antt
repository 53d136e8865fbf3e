use Rattle.std.proofs.Common.{◌≡◌, length}
use Rattle.csdn_core.specs.Network.{Network}
use Rattle.net_structs.specs.Networks.{put_in_order, static_cmp}
use Rattle.class_networks.specs.Made.{fixed_rows}
use Rattle.class_networks.proofs.sides.put_fixed.Given as goal

abbrev pub invariant-rows : goal.invariant-rows
invariant-rows l =
    let now : Network = record l.network { rows = put_in_order static_cmp l.network.rows (fixed_rows l.parts l.rest) } in
    let wanted : Network = record l.fn.network { rows = put_in_order static_cmp l.fn.network.rows (fixed_rows l.parts l.fn.rows) } in
    now ≡ wanted

abbrev pub decreases-rows : goal.decreases-rows
decreases-rows l = length l.rest
