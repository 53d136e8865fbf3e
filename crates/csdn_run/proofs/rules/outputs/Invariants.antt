use Rattle.std.proofs.Common.{◌≡◌, ◌++◌, filter, length}
use Rattle.csdn_step.specs.Courses.{sends}
use Rattle.csdn_run.specs.Sights.{state_seen}
use Rattle.csdn_run.proofs.rules.outputs.Given as goal

abbrev pub invariant-ports : goal.invariant-ports
invariant-ports l = l.ports ++ filter (sends (state_seen l.sight) l.key) l.rest ≡ filter (sends (state_seen l.sight) l.key) l.setting.network.now.ports

abbrev pub decreases-ports : goal.decreases-ports
decreases-ports l = length l.rest
