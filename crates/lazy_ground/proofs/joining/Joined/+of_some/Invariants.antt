use Rattle.std.proofs.Common.{length}
use Rattle.lazy_ground.proofs.joining.Joined.+of_some.Given as goal

abbrev pub decreases-of_some : goal.decreases-of_some
decreases-of_some l = length l.sorts.now
