use Rattle.std.proofs.Common.{◌≡◌, ◌==◌, length}
use Rattle.std.specs.List.{list_any}
use Rattle.class_networks.proofs.ports.is_numeral.Given as goal

abbrev pub invariant-numerals : goal.invariant-numerals
invariant-numerals l = list_any (λ m. l.number == m) l.rest ≡ list_any (λ m. l.number == m) l.fn.numerals

abbrev pub decreases-numerals : goal.decreases-numerals
decreases-numerals l = length l.rest
