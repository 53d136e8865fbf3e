use Rattle.std.proofs.Common.{◌≡◌}
use Rattle.shared_hall_tests.proofs.tests.act_often.Given as goal

-- the seat is still of the hall
abbrev pub invariant-loop-n : goal.invariant-loop-n
invariant-loop-n g l = l.seat.hall ≡ l.hall
