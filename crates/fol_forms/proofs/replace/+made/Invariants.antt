use Rattle.std.proofs.Common.{◌+◌, ◌*◌}
use Rattle.csdn_core.specs.Nodes.{nodes}
use Rattle.fol_forms.proofs.replace.+made.Given as goal

abbrev pub decreases-made : goal.decreases-made
decreases-made l = 2 * nodes l.formula.now

abbrev pub decreases-boxed : goal.decreases-boxed
decreases-boxed l = 2 * nodes l.formula.now + 1
