use Rattle.std.proofs.Common.{◌+◌, ◌*◌, max}
use Rattle.csdn_core.specs.Nodes.{nodes}
use Rattle.fol_forms.proofs.normal.+made.Given as goal

abbrev pub decreases-made : goal.decreases-made
decreases-made l = 3 * nodes l.formula.now

abbrev pub decreases-boxed : goal.decreases-boxed
decreases-boxed l = 3 * nodes l.formula.now + 1

abbrev pub decreases-both : goal.decreases-both
decreases-both l = 3 * max (nodes l.p.now) (nodes l.q.now) + 2
