use Rattle.std.proofs.Common.{◌≡◌, ◌++◌, length}
use Rattle.std.specs.List.{flat_map}
use Rattle.text_lines.specs.Printed.{line_text}
use Rattle.net_text.specs.NetText.{constant_lines}
use Rattle.net_text.proofs.print.put_constants.Given as goal

abbrev pub invariant-constants : goal.invariant-constants
invariant-constants l = l.out.items ++ flat_map line_text (constant_lines l.constants l.values) ≡ l.fn.out.items ++ flat_map line_text (constant_lines l.fn.constants l.fn.values)

abbrev pub decreases-constants : goal.decreases-constants
decreases-constants l = length l.constants
