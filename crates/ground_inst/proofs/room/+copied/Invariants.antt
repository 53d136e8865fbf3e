use Rattle.csdn_core.specs.Nodes.{nodes}
use Rattle.ground_inst.proofs.room.+copied.Given as goal

abbrev pub decreases-copied : goal.decreases-copied
decreases-copied l = nodes l.formula.now
