use Rattle.std.proofs.Common.{◌≡◌, ◌++◌, length}
use Rattle.csdn_print.specs.Programs.{items_text}
use Rattle.csdn_print.proofs.program.put_items.Given as goal

abbrev pub invariant-more : goal.invariant-more
invariant-more l = l.out.items ++ items_text l.items ≡ l.fn.out.items ++ items_text l.initial.items

abbrev pub decreases-more : goal.decreases-more
decreases-more l = length l.items
