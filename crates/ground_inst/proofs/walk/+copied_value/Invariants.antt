use Rattle.csdn_core.specs.Nodes.{nodes}
use Rattle.ground_inst.proofs.walk.+copied_value.Given as goal

abbrev pub decreases-copied_value : goal.decreases-copied_value
decreases-copied_value l = nodes l.formula.now
