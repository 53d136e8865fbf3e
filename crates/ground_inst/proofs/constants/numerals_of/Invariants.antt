use Rattle.std.proofs.Common.{◌≡◌, ◌++◌, length, map}
use Rattle.ground_inst.specs.Equality.{numeral_of}
use Rattle.ground_inst.proofs.constants.numerals_of.Given as goal

abbrev pub invariant-numerals : goal.invariant-numerals
invariant-numerals l = l.numerals.items ++ map (numeral_of l.parts) l.rest ≡ map (numeral_of l.parts) l.parts.numerals

abbrev pub decreases-numerals : goal.decreases-numerals
decreases-numerals l = length l.rest
