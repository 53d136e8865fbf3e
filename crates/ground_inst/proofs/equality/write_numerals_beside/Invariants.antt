use Rattle.std.proofs.Common.{◌≡◌, ◌++◌, length}
use Rattle.std.specs.Prelude.{flat_map}
use Rattle.ground_inst.specs.Equality.{numerals_differ}
use Rattle.ground_inst.specs.Facts.{num_of}
use Rattle.ground_inst.proofs.equality.write_numerals_beside.Given as goal

abbrev pub invariant-others : goal.invariant-others
invariant-others l = l.rows ++ flat_map (λ q. numerals_differ (num_of l.facts) l.numeral q) l.rest ≡ l.fn.rows ++ flat_map (λ q. numerals_differ (num_of l.facts) l.numeral q) l.others

abbrev pub decreases-others : goal.decreases-others
decreases-others l = length l.rest
