use Rattle.csdn_core.specs.Nodes.{nodes}
use Rattle.fol_forms.proofs.fragment.+fragment.Given as goal

abbrev pub decreases-fragment : goal.decreases-fragment
decreases-fragment l = nodes l.formula.now
