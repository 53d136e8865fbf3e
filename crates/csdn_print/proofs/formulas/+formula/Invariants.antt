use Rattle.std.proofs.Common.{◌+◌, ◌*◌}
use Rattle.csdn_tree.specs.Nodes.{raw_nodes}
use Rattle.csdn_print.proofs.formulas.+formula.Given as goal

abbrev pub decreases-put_formula : goal.decreases-put_formula
decreases-put_formula l = 4 * raw_nodes l.p.now

abbrev pub decreases-put_operand : goal.decreases-put_operand
decreases-put_operand l = 4 * raw_nodes l.p.now + 1

abbrev pub decreases-put_two : goal.decreases-put_two
decreases-put_two l = 4 * (raw_nodes l.p.now + raw_nodes l.r.now) + 2

abbrev pub decreases-put_quantified : goal.decreases-put_quantified
decreases-put_quantified l = 4 * raw_nodes l.p.now + 2

abbrev pub decreases-put_not : goal.decreases-put_not
decreases-put_not l = 4 * raw_nodes l.p.now + 2
