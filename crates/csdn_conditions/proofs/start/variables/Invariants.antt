use Rattle.std.proofs.Common.{◌≡◌, ◌+◌, ◌++◌, length}
use Rattle.csdn_conditions.specs.Start.{terms_of}
use Rattle.csdn_conditions.proofs.start.variables.Given as goal

abbrev pub invariant-binds : goal.invariant-binds
invariant-binds l = (l.terms ++ terms_of l.rest ≡ terms_of l.binds) × (length l.terms + length l.rest ≡ length l.binds)

abbrev pub decreases-binds : goal.decreases-binds
decreases-binds l = length l.rest
