use Rattle.std.proofs.Common.{◌∙◌, ap}
use Rattle.csdn_conditions.proofs.StartMade.{start_made}
use Rattle.csdn_conditions.proofs.start.start.Goals as goal

pub returns : goal.returns
returns c =
    start_made c.args.program.now c.as_slice-rows.result.now c.as_slice.result.now c.in_ok-members.members c.push_rows.new.members c.push_rows-2.new.members c.joined.result
    (c.as_slice-rows.ensures ∙ ap (λ p. p.start) c.parts-parts.ensures.value) (c.as_slice.ensures ∙ ap (λ p. p.relations) c.parts-parts.ensures.value)
    c.in_ok-members.ensures c.in_ok-push_rows.ensures c.in_ok-push_rows-2.ensures c.joined.ensures
