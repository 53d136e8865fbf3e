use Rattle.std.proofs.Common.{◌∷◌, [], map}
use Rattle.std.proofs.lemmas.Result.{on_ok_weaker}
use Rattle.net_structs.specs.Networks.{as_stored}
use Rattle.net_text.specs.NetText.{constant_lines, row_words, state_lines, packet_lines, end_words}
use Rattle.net_text.proofs.Appended.{one, five}
use Rattle.net_text.proofs.print.put_parts.Goals as goal

pub returns : goal.returns
returns c =
    let P = c.args.program.now in
    let N = c.args.case.now.network in
    on_ok_weaker c.put_line.result (λ e. five c.args.out.now.items c.put_values.new.out.items c.put_static_rows.new.out.items c.put_state.new.out.items c.put_packet.new.out.items c.put_line.new.out.items
    (constant_lines P.constants N.constants) (map (row_words P) (as_stored N.rows)) (state_lines P c.args.case.now.state) (packet_lines c.args.case.now.packet) (end_words ∷ [])
    c.in_ok-put_values.ensures c.in_ok-put_static_rows.ensures c.in_ok-put_state.ensures c.in_ok-put_packet.ensures (one c.put_packet.new.out.items c.put_line.new.out.items end_words e)) c.put_line.ensures
