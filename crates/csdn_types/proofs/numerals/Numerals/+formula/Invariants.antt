use Rattle.csdn_tree.specs.Nodes.{raw_nodes}
use Rattle.csdn_types.proofs.numerals.Numerals.+formula.Given as goal

abbrev pub decreases-formula : goal.decreases-formula
decreases-formula l = raw_nodes l.raw.now
