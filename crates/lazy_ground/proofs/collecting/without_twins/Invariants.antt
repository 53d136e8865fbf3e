use Rattle.lazy_ground.proofs.TwinLaws.{AreKept}
use Rattle.lazy_ground.proofs.collecting.without_twins.Given as goal

abbrev pub invariant-clauses : goal.invariant-clauses
invariant-clauses l = AreKept l.found l.at l.kept
