use Rattle.std.proofs.Common.{◌≡◌, false, take}
use Rattle.lazy_ground.specs.Found.{has_clause}
use Rattle.lazy_ground.proofs.collecting.has.Given as goal

abbrev pub invariant-clauses : goal.invariant-clauses
invariant-clauses l = has_clause (take l.at l.clauses.clauses) l.literals ≡ false
