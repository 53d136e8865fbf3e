use Rattle.std.proofs.Common.{◌≡◌, ◌+◌, length}
use Rattle.net_structs.specs.Refusals.{strange_const_from}
use Rattle.net_structs.proofs.read.strange_const.Given as goal

abbrev pub invariant-constants : goal.invariant-constants
invariant-constants l =
    (strange_const_from l.place l.network l.constants l.values ≡ strange_const_from 0 l.network l.fn.constants l.fn.values) × (l.place + length l.constants ≡ length l.fn.constants)

abbrev pub decreases-constants : goal.decreases-constants
decreases-constants l = length l.constants
