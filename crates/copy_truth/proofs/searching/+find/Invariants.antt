use Rattle.std.proofs.Common.{◌≡◌, ◌+◌, ◌*◌, drop}
use Rattle.ground_inst.specs.Walk.{scope, ways_of}
use Rattle.copy_truth.specs.Goals.{any_true}
use Rattle.copy_truth.proofs.SearchLaws.{AreTried}
use Rattle.copy_truth.proofs.searching.+find.Given as goal

abbrev pub decreases-find : goal.decreases-find
decreases-find l = 4 * l.depth

abbrev pub decreases-look : goal.decreases-look
decreases-look l = 4 * l.depth + 3

abbrev pub decreases-split : goal.decreases-split
decreases-split l = 4 * l.depth + 2

abbrev pub decreases-try_at : goal.decreases-try_at
decreases-try_at l = 4 * l.depth + 1

abbrev pub decreases-try_each : goal.decreases-try_each
decreases-try_each l = 4 * l.depth + 2

abbrev pub decreases-find_with : goal.decreases-find_with
decreases-find_with l = 4 * l.depth + 1

abbrev pub invariant-try_each-places : goal.invariant-try_each-places
invariant-try_each-places l =
    AreTried (ways_of l.r.names).count (any_true l.r (drop l.start l.fn.goals.items)) (scope l.fn.env.items) l.choice.x l.choice.candidates l.place
    × (l.goals.items ≡ l.fn.goals.items)
    × (l.env.items ≡ l.fn.env.items)
