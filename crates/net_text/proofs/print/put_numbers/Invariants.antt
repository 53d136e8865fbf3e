use Rattle.std.proofs.Common.{◌≡◌, ◌++◌, length, map}
use Rattle.std.specs.Prelude.{decimal}
use Rattle.text_lines.specs.Printed.{spaced}
use Rattle.net_text.proofs.print.put_numbers.Given as goal

abbrev pub invariant-numbers : goal.invariant-numbers
invariant-numbers l = l.out.items ++ spaced (map decimal l.rest) ≡ l.fn.out.items ++ spaced (map decimal l.numbers)

abbrev pub decreases-numbers : goal.decreases-numbers
decreases-numbers l = length l.rest
