use Rattle.std.proofs.Common.{◌≡◌, length}
use Rattle.text_lines.specs.Machine.{Format, run, reading}
use Rattle.text_lines.specs.Gives.{TakesBy}
use Rattle.text_lines.proofs.read.read_lines.Given as goal

abbrev pub invariant-lines : goal.invariant-lines
invariant-lines g l =
    (f : Format g.row.S.Denot g.row.V.Denot g.row.Why.Denot) → f.start ≡ l.fn.start → TakesBy f (goal.T-post g l.take)
    → run f l.lines.past l.lines.lines l.state ≡ reading f l.text

abbrev pub decreases-lines : goal.decreases-lines
decreases-lines g l = length l.lines.lines
