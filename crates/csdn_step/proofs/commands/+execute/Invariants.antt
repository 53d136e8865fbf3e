use Rattle.std.proofs.Common.{◌+◌, ◌*◌}
use Rattle.csdn_core.specs.Nodes.{command_nodes}
use Rattle.csdn_step.proofs.commands.+execute.Given as goal

abbrev pub decreases-execute : goal.decreases-execute
decreases-execute l = 2 * command_nodes l.command.now

abbrev pub decreases-execute_with : goal.decreases-execute_with
decreases-execute_with l = 2 * command_nodes l.command.now + 1
