use Rattle.std.proofs.Common.{◌≡◌, ◌+◌, length}
use Rattle.net_text.specs.Lines.{constant_from}
use Rattle.net_text.proofs.line.constant_at.Given as goal

abbrev pub invariant-constants : goal.invariant-constants
invariant-constants l = (constant_from l.at l.rest l.name ≡ constant_from 0 l.constants l.name) × (l.at + length l.rest ≡ length l.constants)

abbrev pub decreases-constants : goal.decreases-constants
decreases-constants l = length l.rest
