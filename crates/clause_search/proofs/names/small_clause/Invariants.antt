use Rattle.std.proofs.Common.{◌≡◌, ◌++◌, true, length}
use Rattle.std.specs.List.{list_all}
use Rattle.clause_log.specs.Literals.{is_within}
use Rattle.clause_search.specs.Names.{named_clause}
use Rattle.clause_search.proofs.names.small_clause.Given as goal

abbrev pub invariant-literals : goal.invariant-literals
invariant-literals l = (named_clause l.names l.found.items ++ l.rest ≡ l.literals) × (list_all (is_within (length l.names)) l.found.items ≡ true)

abbrev pub decreases-literals : goal.decreases-literals
decreases-literals l = length l.rest
