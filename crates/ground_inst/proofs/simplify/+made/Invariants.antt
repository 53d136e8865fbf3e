use Rattle.std.proofs.Common.{◌+◌, ◌*◌, max}
use Rattle.csdn_core.specs.Nodes.{nodes}
use Rattle.ground_inst.proofs.simplify.+made.Given as goal

abbrev pub decreases-made : goal.decreases-made
decreases-made l = 2 * nodes l.formula.now

abbrev pub decreases-both : goal.decreases-both
decreases-both l = 2 * max (nodes l.p.now) (nodes l.q.now) + 1
