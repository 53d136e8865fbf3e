use Rattle.std.proofs.Common.{◌≡◌, ◌++◌, length}
use Rattle.clause_search.specs.Trails.{values_of}
use Rattle.clause_search.specs.Cuts.{mark_of, cut_literals}
use Rattle.clause_search.proofs.cut.collect.Given as goal

abbrev pub invariant-seen : goal.invariant-seen
invariant-seen l = l.literals.items ++ cut_literals (mark_of l.marks) (values_of l.trail) l.rest ≡ cut_literals (mark_of l.marks) (values_of l.trail) l.marks.seen

abbrev pub decreases-seen : goal.decreases-seen
decreases-seen l = length l.rest
