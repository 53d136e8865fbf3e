use Rattle.std.specs.Prelude.{List, flat_map, length}
use Rattle.clause_log.specs.Literals.{Literal, truths}
use Rattle.ground_inst.specs.Facts.{num_of}
use Rattle.lazy_ground.specs.Found.{Finds}
use Rattle.ground_inst.specs.Equality.{numerals_differ}
use Rattle.lazy_ground.proofs.equalities.find_numerals_beside.Given as goal

abbrev pub invariant-others : goal.invariant-others
invariant-others l = (new : List (List Literal)) → Finds (truths l.trues) (flat_map (λ q. numerals_differ (num_of l.facts) l.numeral q) l.rest) l.rows new → Finds (truths l.trues) (flat_map (λ q. numerals_differ (num_of l.facts) l.numeral q) l.others) l.fn.rows new

abbrev pub decreases-others : goal.decreases-others
decreases-others l = length l.rest
