use Rattle.csdn_core.specs.Nodes.{nodes}
use Rattle.ground_inst.proofs.weights.+weight.Given as goal

abbrev pub decreases-weight : goal.decreases-weight
decreases-weight l = nodes l.formula.now
