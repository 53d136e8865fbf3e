use Rattle.csdn_core.specs.Nodes.{nodes}
use Rattle.fol_forms.proofs.instances.+instances.Given as goal

abbrev pub decreases-instances : goal.decreases-instances
decreases-instances l = nodes l.formula.now
