use Rattle.std.proofs.Common.{◌+◌, ◌*◌}
use Rattle.csdn_core.specs.Nodes.{command_nodes}
use Rattle.csdn_wp.proofs.commands.+preconditions.Given as goal

abbrev pub decreases-precondition : goal.decreases-precondition
decreases-precondition l = 5 * command_nodes l.command.now

abbrev pub decreases-under : goal.decreases-under
decreases-under l = 5 * command_nodes l.command.now + 1

abbrev pub decreases-under_each : goal.decreases-under_each
decreases-under_each l = 5 * command_nodes l.command.now + 2

abbrev pub decreases-and_under : goal.decreases-and_under
decreases-and_under l = 5 * command_nodes l.command.now + 2

abbrev pub decreases-of_conditional : goal.decreases-of_conditional
decreases-of_conditional l = 5 * (command_nodes l.a.now + command_nodes l.b.now) + 3

abbrev pub decreases-of_choice : goal.decreases-of_choice
decreases-of_choice l = 5 * (command_nodes l.a.now + command_nodes l.b.now) + 3

abbrev pub decreases-of_sequence : goal.decreases-of_sequence
decreases-of_sequence l = 5 * (command_nodes l.a.now + command_nodes l.b.now) + 1
