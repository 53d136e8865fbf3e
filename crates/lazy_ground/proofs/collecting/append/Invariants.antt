use Rattle.std.proofs.Common.{◌≡◌, ◌++◌, take}
use Rattle.lazy_ground.proofs.collecting.append.Given as goal

abbrev pub invariant-clauses : goal.invariant-clauses
invariant-clauses l = l.clauses ≡ record { atoms = l.fn.clauses.atoms; clauses = l.fn.clauses.clauses ++ take l.at l.more.clauses }
