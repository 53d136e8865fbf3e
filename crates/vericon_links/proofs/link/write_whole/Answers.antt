use Rattle.vericon_edge.proofs.GrownLemmas.{grown_front, within_front}
use Rattle.vericon_links.proofs.link.write_whole.Goals as goal

pub loop-done-preserved : goal.loop-done-preserved
loop-done-preserved g c =
    let took = c.in_ok-done.ensures.answer in
    record {
      within = within_front c.args.piece.now c.loop-done.done c.in_ok-done.field-0 c.loop-done.invariant.within took.0;
      grown = grown_front _ _ _ c.args.piece.now c.loop-done.done c.in_ok-done.field-0 c.loop-done.invariant.grown took.2;
      steady = cc;
      taken = cc;
      read_faults = cc;
      closed = cc;
      is_shut = cc;
    }
