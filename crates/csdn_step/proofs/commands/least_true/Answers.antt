use Rattle.csdn_core.specs.Truth.{with_var}
use Rattle.csdn_core.specs.Execution.{is_true}
use Rattle.net_structs.specs.Binds.{assignment}
use Rattle.csdn_step.specs.Drafts.{standing}
use Rattle.csdn_step.proofs.Leasts.{least_of}
use Rattle.csdn_step.proofs.commands.least_true.Goals as goal

pub returns-clause-least : goal.returns-clause-least
returns-clause-least c =
    least_of (λ m. is_true c.args.setting.now.program.now c.args.setting.now.network.now c.args.formula.now (with_var (assignment c.args.env.now.pairs) c.args.var m) (standing c.args.draft.now)) c.first_true.result c.elements-elements.result.now _
    c.first_true.ensures.first c.elements-elements.ensures.rising c.elements-elements.ensures.elements
