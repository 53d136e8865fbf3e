use Rattle.csdn_core.specs.Nodes.{nodes}
use Rattle.fol_forms.proofs.fragment.+universal.Given as goal

abbrev pub decreases-universal : goal.decreases-universal
decreases-universal l = nodes l.formula.now
