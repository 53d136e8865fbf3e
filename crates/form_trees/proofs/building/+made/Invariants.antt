use Rattle.std.proofs.Common.{◌+◌, ◌*◌, max}
use Rattle.csdn_core.specs.Nodes.{nodes}
use Rattle.form_trees.proofs.building.+made.Given as goal

abbrev pub decreases-made : goal.decreases-made
decreases-made l = 3 * nodes l.formula.now

abbrev pub decreases-pair : goal.decreases-pair
decreases-pair l = 3 * max (nodes l.p.now) (nodes l.q.now) + 1

abbrev pub decreases-under : goal.decreases-under
decreases-under l = 3 * nodes l.formula.now + 1
