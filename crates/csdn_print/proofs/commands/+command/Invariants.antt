use Rattle.std.proofs.Common.{◌+◌, ◌*◌}
use Rattle.csdn_tree.specs.Nodes.{raw_commands}
use Rattle.csdn_print.proofs.commands.+command.Given as goal

abbrev pub decreases-put_command : goal.decreases-put_command
decreases-put_command l = 4 * raw_commands l.command.now

abbrev pub decreases-put_block : goal.decreases-put_block
decreases-put_block l = 4 * raw_commands l.body.now + 1

abbrev pub decreases-put_branches : goal.decreases-put_branches
decreases-put_branches l = 4 * (raw_commands l.body.now + raw_commands l.other.now) + 2

abbrev pub decreases-put_sequence : goal.decreases-put_sequence
decreases-put_sequence l = 4 * (raw_commands l.a.now + raw_commands l.b.now) + 3

abbrev pub decreases-put_if : goal.decreases-put_if
decreases-put_if l = 4 * (raw_commands l.body.now + raw_commands l.other.now) + 3

abbrev pub decreases-put_pick : goal.decreases-put_pick
decreases-put_pick l = 4 * (raw_commands l.body.now + raw_commands l.other.now) + 3
