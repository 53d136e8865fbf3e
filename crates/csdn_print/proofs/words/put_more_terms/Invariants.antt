use Rattle.std.proofs.Common.{◌≡◌, ◌++◌, length, map}
use Rattle.csdn_print.specs.Words.{more_listed, term_text}
use Rattle.csdn_print.proofs.words.put_more_terms.Given as goal

abbrev pub invariant-more : goal.invariant-more
invariant-more l = l.out.items ++ more_listed (map term_text l.terms) ≡ l.fn.out.items ++ more_listed (map term_text l.initial.terms)

abbrev pub decreases-more : goal.decreases-more
decreases-more l = length l.terms
