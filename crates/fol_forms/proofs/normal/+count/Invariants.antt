use Rattle.csdn_core.specs.Nodes.{nodes}
use Rattle.fol_forms.proofs.normal.+count.Given as goal

abbrev pub decreases-count : goal.decreases-count
decreases-count l = nodes l.formula.now
