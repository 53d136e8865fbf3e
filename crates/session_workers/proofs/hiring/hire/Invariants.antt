use Rattle.std.proofs.Common.{◌≡◌, ◌+◌, ◌≤◌, vec_len, vec_capacity}
use Rattle.std.specs.Prelude.{map}
use Rattle.shared_hall.specs.Halls.{fresh_seats}
use Rattle.link_sessions.specs.Links.{view_by}
use Rattle.session_workers.specs.Courses.{IsWorker}
use Rattle.session_workers.specs.Teams.{EachAt}
use Rattle.session_workers.proofs.hiring.hire.Given as goal

abbrev pub invariant-loop-seat : goal.invariant-loop-seat
invariant-loop-seat g l = record {
  seats : l.seats.items ≡ fresh_seats l.hall (vec_len l.seats);
  each : EachAt (λ k w. IsWorker l.hall l.terms w.seat w.ends.items (map (view_by g.K.Link.taken g.K.Link.written g.K.Link.closed g.K.Link.is_shut g.K.Link.read_faults g.K.Link.write_faults) w.links.items) w.share.parts w.share.amount × (w.seat.account.number + (k + 1) ≡ l.terms.workers)) l.team.items;
  len : vec_len l.team + vec_len l.seats ≡ l.terms.workers;
  room : l.terms.workers ≤ vec_capacity l.team;
  parts : l.all.parts ≡ vec_len l.seats;
  amount : l.all.amount ≡ 0;
}

abbrev pub decreases-loop-seat : goal.decreases-loop-seat
decreases-loop-seat g l = vec_len l.seats
