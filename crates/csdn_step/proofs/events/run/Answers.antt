use Rattle.std.proofs.Common.{◌∙◌, ap₂}
use Rattle.csdn_core.specs.Truth.{Assignment}
use Rattle.csdn_step.specs.Courses.{Course, executed}
use Rattle.csdn_step.proofs.Begun.{begun, packet_bound}
use Rattle.csdn_step.proofs.events.run.Goals as goal

pub returns-clause-done : goal.returns-clause-done
returns-clause-done c =
    c.in_ok-execute.ensures.done
    ∙ ap₂ (λ (e : Assignment) (w : Course). executed c.args.setting.now.program.now c.args.setting.now.network.now c.args.setting.now.sending c.args.handler.now.body e w)
    (packet_bound c.args.handler.now c.args.s c.args.a c.args.b c.args.i _ _ _ _ _ c.in_ok-env.ensures.pairs c.push.ensures.pairs c.push-2.ensures.pairs c.push-3.ensures.pairs c.push-4.ensures.pairs)
    (begun c.args.draft.now c.empty_tally-tally.result c.empty_tally-tally.ensures.changed c.empty_tally-tally.ensures.outs)
