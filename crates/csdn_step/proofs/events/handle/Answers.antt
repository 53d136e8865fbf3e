use Rattle.std.proofs.Common.{◌∙◌, sym, ap, List}
use Rattle.csdn_core.specs.declared.program.Handler.{Handler}
use Rattle.csdn_core.specs.declared.program.Parts.{Parts}
use Rattle.csdn_core.specs.Run.{first_fit}
use Rattle.csdn_step.proofs.Room.{handler_fits}
use Rattle.csdn_step.proofs.events.handle.Goals as goal

pub run-requires : goal.run-requires
run-requires c =
    handler_fits c.args.setting.now.program.now c.args.i c.in-Some.handler.now c.parts.ensures.well_sorted
    (ap (λ (hs : List Handler). first_fit hs c.args.i) (sym (c.as_slice.ensures ∙ ap (λ (p : Parts). p.handlers) c.parts.ensures.value)) ∙ sym c.in-Some.ensures)
