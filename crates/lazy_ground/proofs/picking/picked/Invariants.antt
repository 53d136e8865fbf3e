use Rattle.lazy_ground.proofs.PickLaws.{ArePicked}
use Rattle.lazy_ground.proofs.picking.picked.Given as goal

abbrev pub invariant-clauses : goal.invariant-clauses
invariant-clauses l = ArePicked l.found l.at l.some
