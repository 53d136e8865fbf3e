use Rattle.std.proofs.Common.{◌≡◌, [], length}
use Rattle.net_text.specs.Lines.{values_from}
use Rattle.net_text.proofs.line.all_values.Given as goal

abbrev pub invariant-values : goal.invariant-values
invariant-values l = values_from l.found l.rest ≡ values_from [] l.values

abbrev pub decreases-values : goal.decreases-values
decreases-values l = length l.rest
