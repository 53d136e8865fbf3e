use Rattle.std.proofs.Common.{◌≡◌, length}
use Rattle.net_structs.specs.Refusals.{missing_port as first_missing}
use Rattle.net_structs.proofs.read.missing_port.Given as goal

abbrev pub invariant-numerals : goal.invariant-numerals
invariant-numerals l = first_missing l.network.ports l.rest ≡ first_missing l.network.ports l.numerals

abbrev pub decreases-numerals : goal.decreases-numerals
decreases-numerals l = length l.rest
