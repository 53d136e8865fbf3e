use Rattle.std.proofs.Common.{length, ◌++◌}
use Rattle.csdn_text.specs.Symbols.{rows, more_rows}
use Rattle.csdn_text.proofs.Loops.{GoesOn}
use Rattle.csdn_text.proofs.parser.Parser.rows.Given as goal

abbrev pub invariant-more : goal.invariant-more
invariant-more l = GoesOn l.depth rows more_rows l.fn.self l.self (λ xs. l.found ++ xs)

abbrev pub decreases-more : goal.decreases-more
decreases-more l = length l.self
