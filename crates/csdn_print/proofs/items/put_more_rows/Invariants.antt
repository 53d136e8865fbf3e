use Rattle.std.proofs.Common.{◌≡◌, ◌++◌, length, map}
use Rattle.csdn_tree.specs.declared.syntax.RawRow.{RawRow}
use Rattle.csdn_print.specs.Words.{more_listed, terms_text}
use Rattle.csdn_print.proofs.items.put_more_rows.Given as goal

abbrev pub invariant-more : goal.invariant-more
invariant-more l = l.out.items ++ more_listed (map (λ (r : RawRow). terms_text r.terms) l.rows) ≡ l.fn.out.items ++ more_listed (map (λ (r : RawRow). terms_text r.terms) l.initial.rows)

abbrev pub decreases-more : goal.decreases-more
decreases-more l = length l.rows
