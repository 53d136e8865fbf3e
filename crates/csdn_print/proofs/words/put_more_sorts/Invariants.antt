use Rattle.std.proofs.Common.{◌≡◌, ◌++◌, length, map}
use Rattle.csdn_print.specs.Words.{more_listed, sort_text}
use Rattle.csdn_print.proofs.words.put_more_sorts.Given as goal

abbrev pub invariant-more : goal.invariant-more
invariant-more l = l.out.items ++ more_listed (map sort_text l.sorts) ≡ l.fn.out.items ++ more_listed (map sort_text l.initial.sorts)

abbrev pub decreases-more : goal.decreases-more
decreases-more l = length l.sorts
