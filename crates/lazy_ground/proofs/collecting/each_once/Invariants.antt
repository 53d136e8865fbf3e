use Rattle.std.proofs.Common.{◌≡◌, [], take}
use Rattle.lazy_ground.specs.Found.{once}
use Rattle.lazy_ground.proofs.collecting.each_once.Given as goal

abbrev pub invariant-clauses : goal.invariant-clauses
invariant-clauses l = l.kept ≡ record { atoms = l.found.atoms; clauses = once [] (take l.at l.found.clauses) }
