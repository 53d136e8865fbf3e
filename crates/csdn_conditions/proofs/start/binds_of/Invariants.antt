use Rattle.std.proofs.Common.{◌≡◌, ◌+◌, ◌++◌, length}
use Rattle.csdn_conditions.specs.Start.{binds_from}
use Rattle.csdn_conditions.proofs.start.binds_of.Given as goal

abbrev pub invariant-sorts : goal.invariant-sorts
invariant-sorts l = (l.binds ++ binds_from l.number l.rest ≡ binds_from 0 l.sorts) × (l.number + length l.rest ≡ length l.sorts)

abbrev pub decreases-sorts : goal.decreases-sorts
decreases-sorts l = length l.rest
