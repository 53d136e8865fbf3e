use Rattle.std.proofs.Common.{◌≡◌, ◌≤◌, vec_len, vec_capacity}
use Rattle.shared_hall.specs.Turns.{IsDealing}
use Rattle.shared_hall.specs.Halls.{fresh_seats}
use Rattle.shared_hall.proofs.opening.deal.Given as goal

abbrev pub invariant-loop-number : goal.invariant-loop-number
invariant-loop-number l =
    (l.seat.table_id ≡ l.hall.id) × IsDealing l.hall.opening l.hall.seats l.number l.seat.me × (l.row.items ≡ fresh_seats l.hall l.number) × (l.seats ≤ vec_capacity l.row) × (vec_len l.row ≡ l.number)
