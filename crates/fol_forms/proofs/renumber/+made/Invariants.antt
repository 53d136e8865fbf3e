use Rattle.std.proofs.Common.{◌+◌, ◌*◌}
use Rattle.csdn_core.specs.Nodes.{nodes}
use Rattle.fol_forms.proofs.renumber.+made.Given as goal

abbrev pub decreases-made : goal.decreases-made
decreases-made l = 3 * nodes l.formula.now

abbrev pub decreases-boxed : goal.decreases-boxed
decreases-boxed l = 3 * nodes l.formula.now + 1

abbrev pub decreases-under : goal.decreases-under
decreases-under l = 3 * nodes l.formula.now + 2
