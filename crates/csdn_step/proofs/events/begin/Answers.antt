use Rattle.std.proofs.Common.{◌∙◌, sym, ap, subst}
use Rattle.csdn_core.specs.Network.{State}
use Rattle.csdn_core.specs.Run.{Step}
use Rattle.net_structs.specs.Rows.{held}
use Rattle.csdn_step.specs.Courses.{Course}
use Rattle.csdn_step.proofs.Steps.{steps}
use Rattle.csdn_step.proofs.events.begin.Goals as goal

pub returns-clause-step : goal.returns-clause-step
returns-clause-step c =
    subst (λ (y : State). Step c.args.program.now c.args.network.now (held c.args.state.now) c.args.event.now y)
    (sym (ap (λ (w : Course). w.state) c.in_ok-begun.ensures.done))
    (steps c.args.program.now c.args.network.now c.args.event.now (held c.args.state.now)
    (sym c.is_of_network.ensures ∙ c.if-not-is_of_network.false) (sym c.in_ok-is_enabled.ensures ∙ c.if-not-branch.false))
