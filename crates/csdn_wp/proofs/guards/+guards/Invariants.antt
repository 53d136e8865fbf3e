use Rattle.std.proofs.Common.{length, ◌+◌, ◌*◌}
use Rattle.csdn_wp.proofs.guards.+guards.Given as goal

abbrev pub decreases-guard : goal.decreases-guard
decreases-guard l = 2 * length l.earlier.now

abbrev pub decreases-guard_from : goal.decreases-guard_from
decreases-guard_from l = 2 * length l.rest.now + 1
