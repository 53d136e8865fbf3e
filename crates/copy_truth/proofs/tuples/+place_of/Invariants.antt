use Rattle.std.proofs.Common.{◌+◌, ◌*◌, length}
use Rattle.copy_truth.proofs.tuples.+place_of.Given as goal

abbrev pub decreases-place_of_variable : goal.decreases-place_of_variable
decreases-place_of_variable l = 2 * length l.terms.now

abbrev pub decreases-place_behind : goal.decreases-place_behind
decreases-place_behind l = 2 * length l.others.now + 1
