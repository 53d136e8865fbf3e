use Rattle.std.proofs.Common.{length}
use Rattle.clause_search.proofs.NameLaws.{AreUpTo}
use Rattle.clause_search.proofs.names.names_of.Given as goal

abbrev pub invariant-atoms : goal.invariant-atoms
invariant-atoms l = AreUpTo l.most l.names.items l.last

abbrev pub decreases-atoms : goal.decreases-atoms
decreases-atoms l = length l.rest
