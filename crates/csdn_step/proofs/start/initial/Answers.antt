use Rattle.std.proofs.Common.{◌∙◌, ap}
use Rattle.csdn_core.specs.declared.program.Parts.{Parts}
use Rattle.net_structs.specs.Rows.{held}
use Rattle.csdn_step.proofs.Starts.{starts}
use Rattle.csdn_step.proofs.start.initial.Goals as goal

pub returns : goal.returns
returns c =
    starts c.args.program.now c.args.network.now c.in_ok-env.env.pairs c.in_ok-state.state c.as_slice.result.now (held c.put_rows.new.state)
    c.in_ok-put_rows.ensures c.in_ok-env.ensures.pairs c.in_ok-state.ensures (c.as_slice.ensures ∙ ap (λ (p : Parts). p.start) c.parts.ensures.value)
