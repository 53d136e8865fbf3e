use Rattle.std.proofs.Common.{◌≡◌, length}
use Rattle.std.specs.List.{flat_map}
use Rattle.net_structs.specs.Networks.{in_order, put_in_order}
use Rattle.csdn_run.specs.Places.{match_cmp}
use Rattle.csdn_run.specs.Joins.{match_at}
use Rattle.csdn_run.proofs.joins.keys_of.Given as goal

abbrev pub invariant-rows : goal.invariant-rows
invariant-rows l = put_in_order match_cmp l.keys.keys (flat_map (match_at l.setting.network.now l.s) l.rest) ≡ in_order match_cmp (flat_map (match_at l.setting.network.now l.s) l.rows)

abbrev pub decreases-rows : goal.decreases-rows
decreases-rows l = length l.rest
