use Rattle.std.proofs.Common.{length, ◌-◌, ◌≡◌, ◌≤◌, take, false}
use Rattle.vericon_edge.specs.Written.{Grown}
use Rattle.vericon_edge.proofs.sink.write_piece.Given as goal

abbrev pub invariant-loop-done : goal.invariant-loop-done
invariant-loop-done g l = record {
  within : l.done ≤ length l.piece;
  grown : Grown (g.S.Sink.written l.fn.out) (g.S.Sink.written l.out) (take l.done l.piece);
  steady : g.S.Sink.faults l.out ≡ g.S.Sink.faults l.fn.out;
  unfailed : g.S.Sink.has_failed l.out ≡ false;
}

abbrev pub decreases-loop-done : goal.decreases-loop-done
decreases-loop-done g l = length l.piece - l.done
