use Rattle.std.proofs.Common.{◌≡◌, drop}
use Rattle.csdn_types.specs.Numerals.{with_numerals}
use Rattle.csdn_tree.specs.Numerals.{terms_numerals}
use Rattle.csdn_types.proofs.numerals.Numerals.terms.Given as goal

abbrev pub invariant-loop-each : goal.invariant-loop-each
invariant-loop-each l = with_numerals l.fn.self (terms_numerals l.raw) ≡ with_numerals l.self (terms_numerals (drop l.each-index l.raw))
