use Rattle.std.proofs.Common.{◌≡◌, ◌+◌, ◌<◌, ◌^◌, length}
use Rattle.text_lines.specs.Text.{lines_left}
use Rattle.text_lines.proofs.lines.Lines.next.Given as goal

abbrev pub invariant-passed : goal.invariant-passed
invariant-passed l = (lines_left l.self-inside.number l.self-inside.rest.now ≡ lines_left l.initial.self-inside.number l.initial.self-inside.rest.now) × (l.self-inside.number + length l.self-inside.rest.now < 2 ^ 64)

abbrev pub decreases-passed : goal.decreases-passed
decreases-passed l = length l.self-inside.rest.now
