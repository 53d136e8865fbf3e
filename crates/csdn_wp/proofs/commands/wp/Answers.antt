use Rattle.csdn_wp.proofs.Preceding.{made_precondition}
use Rattle.csdn_wp.proofs.commands.wp.Goals as goal

pub returns-clause-exact : goal.returns-clause-exact
returns-clause-exact c = made_precondition c.args.program.now c.args.command.now c.args.post.now c.precondition.result c.precondition.ensures
