use Rattle.std.proofs.Common.{length}
use Rattle.copy_truth.proofs.opened.+are_bound.Given as goal

abbrev pub decreases-are_bound : goal.decreases-are_bound
decreases-are_bound l = length l.env.now
