use Rattle.std.proofs.Common.{◌≡◌, ◌++◌, length}
use Rattle.std.specs.List.{flat_map}
use Rattle.text_lines.specs.Printed.{line_text}
use Rattle.log_text.specs.LogText.{block_lines, log_text}
use Rattle.log_text.proofs.print.text_of.Given as goal

abbrev pub invariant-all : goal.invariant-all
invariant-all l = l.out.items ++ flat_map line_text (flat_map block_lines l.rest) ≡ log_text l.blocks

abbrev pub decreases-all : goal.decreases-all
decreases-all l = length l.rest
