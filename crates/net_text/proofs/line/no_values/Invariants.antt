use Rattle.std.proofs.Common.{◌≡◌, ◌++◌, length}
use Rattle.net_text.specs.Lines.{no_values}
use Rattle.net_text.proofs.line.no_values.Given as goal

abbrev pub invariant-constants : goal.invariant-constants
invariant-constants l = l.values ++ no_values l.rest ≡ no_values l.constants

abbrev pub decreases-constants : goal.decreases-constants
decreases-constants l = length l.rest
