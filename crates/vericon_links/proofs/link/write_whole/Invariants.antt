use Rattle.std.proofs.Common.{length, ◌-◌, ◌≡◌, ◌≤◌, take}
use Rattle.vericon_edge.specs.Written.{Grown}
use Rattle.vericon_links.proofs.link.write_whole.Given as goal

abbrev pub invariant-loop-done : goal.invariant-loop-done
invariant-loop-done g l = record {
  within : l.done ≤ length l.piece;
  grown : Grown (g.K.Link.written l.fn.link) (g.K.Link.written l.link) (take l.done l.piece);
  steady : g.K.Link.write_faults l.link ≡ g.K.Link.write_faults l.fn.link;
  taken : g.K.Link.taken l.link ≡ g.K.Link.taken l.fn.link;
  read_faults : g.K.Link.read_faults l.link ≡ g.K.Link.read_faults l.fn.link;
  closed : g.K.Link.closed l.link ≡ g.K.Link.closed l.fn.link;
  is_shut : g.K.Link.is_shut l.link ≡ g.K.Link.is_shut l.fn.link;
}

abbrev pub decreases-loop-done : goal.decreases-loop-done
decreases-loop-done g l = length l.piece - l.done
