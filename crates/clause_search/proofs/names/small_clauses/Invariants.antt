use Rattle.std.proofs.Common.{◌≡◌, map, take, length}
use Rattle.clause_search.specs.Names.{named_clause}
use Rattle.clause_search.proofs.names.small_clauses.Given as goal

abbrev pub invariant-clauses : goal.invariant-clauses
invariant-clauses l = (map (named_clause l.names) l.found.clauses ≡ take l.at l.clauses.clauses) × (l.found.atoms ≡ length l.names)
