use Rattle.std.proofs.Common.{◌≡◌, length}
use Rattle.csdn_core.specs.Run.{first_fit}
use Rattle.csdn_step.proofs.events.first_fit.Given as goal

abbrev pub invariant-handlers : goal.invariant-handlers
invariant-handlers l = first_fit l.rest l.i ≡ first_fit l.handlers l.i

abbrev pub decreases-handlers : goal.decreases-handlers
decreases-handlers l = length l.rest
