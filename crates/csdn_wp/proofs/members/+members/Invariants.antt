use Rattle.std.proofs.Common.{length, ◌+◌, ◌*◌}
use Rattle.csdn_wp.proofs.members.+members.Given as goal

abbrev pub decreases-members : goal.decreases-members
decreases-members l = 3 * length l.handlers.now

abbrev pub decreases-and_later : goal.decreases-and_later
decreases-and_later l = 3 * length l.handlers.now + 1

abbrev pub decreases-members_from : goal.decreases-members_from
decreases-members_from l = 3 * length l.rest.now + 2
