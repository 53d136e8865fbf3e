use Rattle.std.proofs.Common.{length}
use Rattle.clause_search.specs.Cuts.{mark_of}
use Rattle.clause_search.proofs.Points.{IsLookedBack}
use Rattle.clause_search.proofs.cut.way_back.Given as goal

abbrev pub invariant-entries : goal.invariant-entries
invariant-entries l = IsLookedBack (mark_of l.marks) l.entries l.rest l.found

abbrev pub decreases-entries : goal.decreases-entries
decreases-entries l = length l.rest
