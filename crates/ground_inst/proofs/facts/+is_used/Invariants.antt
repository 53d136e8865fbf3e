use Rattle.csdn_core.specs.Nodes.{nodes}
use Rattle.ground_inst.proofs.facts.+is_used.Given as goal

abbrev pub decreases-is_used : goal.decreases-is_used
decreases-is_used l = nodes l.formula.now
