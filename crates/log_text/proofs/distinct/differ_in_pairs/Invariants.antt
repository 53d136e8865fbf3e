use Rattle.std.proofs.Common.{◌≡◌, length}
use Rattle.clause_log.specs.Literals.{has_distinct_atoms}
use Rattle.log_text.proofs.distinct.differ_in_pairs.Given as goal

abbrev pub invariant-literals : goal.invariant-literals
invariant-literals l = has_distinct_atoms l.rest ≡ has_distinct_atoms l.literals

abbrev pub decreases-literals : goal.decreases-literals
decreases-literals l = length l.rest
