use Rattle.std.proofs.Common.{◌+◌, ◌*◌}
use Rattle.csdn_tree.specs.Nodes.{raw_commands}
use Rattle.csdn_types.proofs.commands.+command.Given as goal

abbrev pub decreases-command : goal.decreases-command
decreases-command l = 3 * raw_commands l.raw.now

abbrev pub decreases-boxed : goal.decreases-boxed
decreases-boxed l = 3 * raw_commands l.raw.now + 1

abbrev pub decreases-pick_from : goal.decreases-pick_from
decreases-pick_from l = 3 * raw_commands l.body.now + 2
