use Rattle.csdn_tree.specs.Nodes.{raw_commands}
use Rattle.csdn_types.proofs.numerals.Numerals.+command.Given as goal

abbrev pub decreases-command : goal.decreases-command
decreases-command l = raw_commands l.raw.now
