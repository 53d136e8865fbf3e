use Rattle.std.proofs.Common.{◌≡◌, true, take}
use Rattle.std.specs.List.{list_all}
use Rattle.clause_search.specs.Trails.{values_of}
use Rattle.clause_search.specs.Searches.{is_satisfied}
use Rattle.clause_search.proofs.turn.last_look.Given as goal

abbrev pub invariant-clauses : goal.invariant-clauses
invariant-clauses l = list_all (is_satisfied (values_of l.trail)) (take l.at l.clauses.clauses) ≡ true
