use Rattle.std.proofs.Common.{◌≡◌, ◌+◌, length}
use Rattle.net_structs.specs.Refusals.{strange_row_from}
use Rattle.net_structs.proofs.read.strange_row.Given as goal

abbrev pub invariant-rows : goal.invariant-rows
invariant-rows l =
    (strange_row_from l.place l.program l.network l.rest ≡ strange_row_from 0 l.program l.network l.rows) × (l.place + length l.rest ≡ length l.rows)

abbrev pub decreases-rows : goal.decreases-rows
decreases-rows l = length l.rest
