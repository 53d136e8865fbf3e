use Rattle.std.proofs.Common.{length, ◌++◌}
use Rattle.csdn_text.specs.Symbols.{terms, more_terms}
use Rattle.csdn_text.proofs.Loops.{GoesOn}
use Rattle.csdn_text.proofs.parser.Parser.terms.Given as goal

abbrev pub invariant-more : goal.invariant-more
invariant-more l = GoesOn l.depth terms more_terms l.fn.self l.self (λ xs. l.found ++ xs)

abbrev pub decreases-more : goal.decreases-more
decreases-more l = length l.self
