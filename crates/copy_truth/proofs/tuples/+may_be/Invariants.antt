use Rattle.std.proofs.Common.{◌+◌, ◌*◌, length}
use Rattle.copy_truth.proofs.tuples.+may_be.Given as goal

abbrev pub decreases-may_be : goal.decreases-may_be
decreases-may_be l = 2 * length l.terms.now

abbrev pub decreases-may_go_on : goal.decreases-may_go_on
decreases-may_go_on l = 2 * length l.others.now + 1
