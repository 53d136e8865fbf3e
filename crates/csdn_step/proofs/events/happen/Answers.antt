use Rattle.std.proofs.Common.{◌∙◌, ap}
use Rattle.csdn_core.specs.Network.{State}
use Rattle.csdn_step.specs.Courses.{fired, from_state}
use Rattle.csdn_step.proofs.Begun.{fresh}
use Rattle.csdn_step.proofs.events.happen.Goals as goal

pub returns-in-Ok-clause-done : goal.returns-in-Ok-clause-done
returns-in-Ok-clause-done c =
    c.in-Ok.ensures.done
    ∙ ap (λ (x : State). fired c.args.setting.now.program.now c.args.setting.now.network.now c.args.setting.now.sending c.args.event.now (from_state x)) (fresh c.in_ok-draft.draft _ c.in_ok-draft.ensures.begun)
