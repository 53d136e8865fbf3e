use Rattle.std.proofs.Common.{◌≡◌}
use Rattle.hall_bench.proofs.turns.act_often.Given as goal

-- the seat is still of the hall
abbrev pub invariant-loop : goal.invariant-loop
invariant-loop g l = l.seat.hall ≡ l.hall
