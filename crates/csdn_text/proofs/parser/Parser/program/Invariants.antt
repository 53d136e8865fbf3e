use Rattle.std.proofs.Common.{length, ◌++◌}
use Rattle.csdn_text.specs.Symbols.{program, items}
use Rattle.csdn_text.proofs.Loops.{GoesOn, of_items}
use Rattle.csdn_text.proofs.parser.Parser.program.Given as goal

abbrev pub invariant-more : goal.invariant-more
invariant-more l = GoesOn l.depth program items l.fn.self l.self (λ xs. of_items (l.items ++ xs))

abbrev pub decreases-more : goal.decreases-more
decreases-more l = length l.self
