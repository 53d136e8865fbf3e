use Rattle.std.proofs.Common.{◌∙◌, ◌++◌, ap}
use Rattle.std.specs.Prelude.{codes}
use Rattle.std.specs.List.{flat_map}
use Rattle.std.proofs.lemmas.Result.{on_ok_weaker}
use Rattle.text_lines.specs.Printed.{line_text}
use Rattle.csdn_core.specs.declared.event.Packet.TheVariants.{Nothing}
use Rattle.csdn_core.specs.Network.{structure}
use Rattle.net_structs.specs.Rows.{held}
use Rattle.net_text.proofs.Appended.{two}
use Rattle.net_listing.specs.Listings.{truth_lines, transition_lines}
use Rattle.net_listing.proofs.listing.put_in_state.Goals as goal

pub returns-clause-text : goal.returns-clause-text
returns-clause-text c =
    let P = c.args.program.now in
    let N = c.args.network.now in
    let rows = c.args.state.now in
    on_ok_weaker c.put_transitions.result (λ e. two c.args.out.now.items c.put_truths.new.out.items c.put_transitions.new.out.items (truth_lines (codes "safety") (structure P N (held rows) Nothing) P.safety) (transition_lines P N rows c.args.packet.now)
    (c.in_ok-put_truths.ensures.text ∙ ap (λ vs. c.args.out.now.items ++ flat_map line_text (truth_lines (codes "safety") (structure P N (held rows) Nothing) vs)) c.safety_of.ensures.value) e) c.put_transitions.ensures.text
