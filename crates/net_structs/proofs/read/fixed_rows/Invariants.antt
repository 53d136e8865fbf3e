use Rattle.std.proofs.Common.{◌≡◌, length}
use Rattle.std.specs.List.Sorted.{IsStrictlySortedBy}
use Rattle.net_structs.specs.Networks.{fixed_cmp, fixed_rows as fixed_rows_of, in_order, put_in_order}
use Rattle.net_structs.proofs.read.fixed_rows.Given as goal

abbrev pub invariant-rows : goal.invariant-rows
invariant-rows l = (put_in_order fixed_cmp l.set.keys (fixed_rows_of l.rest) ≡ in_order fixed_cmp (fixed_rows_of l.rows)) × IsStrictlySortedBy fixed_cmp l.set.keys

abbrev pub decreases-rows : goal.decreases-rows
decreases-rows l = length l.rest
