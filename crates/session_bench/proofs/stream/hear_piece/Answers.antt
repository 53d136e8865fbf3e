use Rattle.std.proofs.Common.{false, [], ◌-◌, ◌+◌, length, arith, ap}
use Rattle.std.proofs.lemmas.List.{length-drop}
use Rattle.of10_speech.specs.Speeches.{Told}
use Rattle.session_bench.proofs.HeardOn.{heard_on}
use Rattle.session_bench.proofs.stream.hear_piece.Goals as goal

pub loop-at-preserved : goal.loop-at-preserved
loop-at-preserved c =
    let t : Told = record { declares = λ ask. false; replies = []; asks = [] } in
    let on = heard_on t t c.loop-at.framer c.loop-at.session c.rest_from.result.now c.hear_next.new.framer c.hear_next.new.session c.in_ok-heard.heard c.loop-at.out.items c.hear_next.new.out.items c.in_ok-heard.ensures.hears c.in-Goes.is in
    record {
      within = omega (arith, on.within, ap length c.rest_from.ensures, length-drop c.loop-at.at c.args.piece.now, c.loop-at.invariant.within);
      is_open = on.is_open;
      place = omega (arith, on.place, c.loop-at.invariant.place);
    }
