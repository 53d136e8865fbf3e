use Rattle.std.proofs.Common.{◌∙◌, ◌++◌, ap, ap₂}
use Rattle.std.specs.Prelude.{codes}
use Rattle.std.specs.List.{flat_map}
use Rattle.text_lines.specs.Printed.{line_text}
use Rattle.csdn_core.specs.declared.event.Packet.TheVariants.{Nothing}
use Rattle.csdn_core.specs.Network.{structure}
use Rattle.csdn_core.specs.Run.{empty_state}
use Rattle.net_structs.specs.Rows.{held}
use Rattle.net_text.proofs.Appended.{two}
use Rattle.net_listing.specs.Listings.{listing, truth_lines, state_lines}
use Rattle.net_listing.proofs.listing.list_invariants.Goals as goal

pub returns : goal.returns
returns c =
    let P = c.args.program.now in
    let k = c.args.case.now in
    two c.new-out.result.items c.put_truths.new.out.items c.put_state.new.out.items (truth_lines (codes "topology") (structure P k.network empty_state Nothing) P.topology) (state_lines P k.network k.state k.packet)
    (c.in_ok-put_truths.ensures.text ∙ ap₂ (λ s vs. c.new-out.result.items ++ flat_map line_text (truth_lines (codes "topology") (structure P k.network (held s) Nothing) vs)) c.in_ok-empty.ensures c.topology_of.ensures.value)
    c.in_ok-put_state.ensures.text
    ∙ ap (λ t. t ++ listing P k) c.new-out.ensures.items
