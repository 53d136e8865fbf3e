use Rattle.std.proofs.Common.{◌≡◌, flat_map, take}
use Rattle.lazy_ground.specs.Completed.{atoms_in}
use Rattle.lazy_ground.proofs.naming.atoms_of.Given as goal

abbrev pub invariant-clauses : goal.invariant-clauses
invariant-clauses l = l.atoms.items ≡ flat_map atoms_in (take l.at l.clauses.clauses)
