use Rattle.std.proofs.Common.{length}
use Rattle.clause_search.specs.Cuts.{mark_of, IsListed}
use Rattle.clause_search.proofs.marks.clear_all.Given as goal

abbrev pub invariant-seen : goal.invariant-seen
invariant-seen l = IsListed (mark_of (record { marks = l.table.items; seen = l.seen.items })) l.seen.items

abbrev pub decreases-seen : goal.decreases-seen
decreases-seen l = length l.seen.items
