use Rattle.std.proofs.Common.{◌≡◌, drop}
use Rattle.csdn_types.specs.Numerals.{with_numerals}
use Rattle.csdn_tree.specs.Numerals.{items_numerals}
use Rattle.csdn_types.proofs.numerals.Numerals.items.Given as goal

abbrev pub invariant-loop-each : goal.invariant-loop-each
invariant-loop-each l = with_numerals l.fn.self (items_numerals l.raw) ≡ with_numerals l.self (items_numerals (drop l.each-index l.raw))
