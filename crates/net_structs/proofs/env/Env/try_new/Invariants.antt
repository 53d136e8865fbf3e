use Rattle.std.proofs.Common.{◌≤◌, ◌-◌, length}
use Rattle.net_structs.proofs.env.Env.try_new.Given as goal

abbrev pub invariant-slots : goal.invariant-slots
invariant-slots l = length l.slots ≤ l.room

abbrev pub decreases-slots : goal.decreases-slots
decreases-slots l = l.room - length l.slots
