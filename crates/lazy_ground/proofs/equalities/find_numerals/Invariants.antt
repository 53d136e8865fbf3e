use Rattle.std.specs.Prelude.{List, flat_map, length}
use Rattle.clause_log.specs.Literals.{Literal, truths}
use Rattle.ground_inst.specs.Facts.{num_of}
use Rattle.lazy_ground.specs.Found.{Finds}
use Rattle.ground_inst.specs.Equality.{numerals_differ}
use Rattle.lazy_ground.proofs.equalities.find_numerals.Given as goal

abbrev pub invariant-numerals : goal.invariant-numerals
invariant-numerals l = (new : List (List Literal)) → Finds (truths l.trues) (flat_map (λ p. flat_map (λ q. numerals_differ (num_of l.facts) p q) l.numerals) l.rest) l.rows new → Finds (truths l.trues) (flat_map (λ p. flat_map (λ q. numerals_differ (num_of l.facts) p q) l.numerals) l.numerals) l.fn.rows new

abbrev pub decreases-numerals : goal.decreases-numerals
decreases-numerals l = length l.rest
