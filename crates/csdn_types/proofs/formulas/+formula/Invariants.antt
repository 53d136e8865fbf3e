use Rattle.std.proofs.Common.{◌+◌, ◌*◌}
use Rattle.csdn_tree.specs.Nodes.{raw_nodes}
use Rattle.csdn_types.proofs.formulas.+formula.Given as goal

abbrev pub decreases-formula : goal.decreases-formula
decreases-formula l = 3 * raw_nodes l.raw.now

abbrev pub decreases-boxed : goal.decreases-boxed
decreases-boxed l = 3 * raw_nodes l.raw.now + 1

abbrev pub decreases-quantified : goal.decreases-quantified
decreases-quantified l = 3 * raw_nodes l.raw.now + 2
