use Rattle.std.proofs.Common.{vec_len}
use Rattle.shared_hall.proofs.Endings.{IsClosing}
use Rattle.shared_hall.proofs.hall.Hall.close.Given as goal

abbrev pub invariant-loop-other : goal.invariant-loop-other
invariant-loop-other l = IsClosing l.self l.fn.seats.items l.seats.items l.keeper

abbrev pub decreases-loop-other : goal.decreases-loop-other
decreases-loop-other l = vec_len l.seats
