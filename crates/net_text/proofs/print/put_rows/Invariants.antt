use Rattle.std.proofs.Common.{◌≡◌, ◌++◌, length, map}
use Rattle.std.specs.List.{flat_map}
use Rattle.text_lines.specs.Printed.{line_text}
use Rattle.net_text.specs.NetText.{row_words}
use Rattle.net_text.proofs.print.put_rows.Given as goal

abbrev pub invariant-rows : goal.invariant-rows
invariant-rows l = l.out.items ++ flat_map line_text (map (row_words l.program) l.rest) ≡ l.fn.out.items ++ flat_map line_text (map (row_words l.program) l.rows)

abbrev pub decreases-rows : goal.decreases-rows
decreases-rows l = length l.rest
