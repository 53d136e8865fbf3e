use Rattle.std.proofs.Common.{◌∙◌}
use Rattle.net_structs.specs.Rows.{held}
use Rattle.csdn_step.proofs.Quiet.{quiet}
use Rattle.csdn_step.proofs.events.begin_quiet.Goals as goal

pub returns-clause-quiet : goal.returns-clause-quiet
returns-clause-quiet c =
    c.in_ok-begun.ensures.done
    ∙ quiet c.args.program.now c.args.network.now (held c.args.state.now) c.parts-parts.ensures.well_sorted c.args.s c.args.a c.args.b c.args.i
