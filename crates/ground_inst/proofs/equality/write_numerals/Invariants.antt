use Rattle.std.proofs.Common.{◌≡◌, ◌++◌, length}
use Rattle.std.specs.Prelude.{flat_map}
use Rattle.ground_inst.specs.Equality.{numerals_differ}
use Rattle.ground_inst.specs.Facts.{num_of}
use Rattle.ground_inst.proofs.equality.write_numerals.Given as goal

abbrev pub invariant-numerals : goal.invariant-numerals
invariant-numerals l = l.rows ++ flat_map (λ p. flat_map (λ q. numerals_differ (num_of l.facts) p q) l.numerals) l.rest ≡ l.fn.rows ++ flat_map (λ p. flat_map (λ q. numerals_differ (num_of l.facts) p q) l.numerals) l.numerals

abbrev pub decreases-numerals : goal.decreases-numerals
decreases-numerals l = length l.rest
