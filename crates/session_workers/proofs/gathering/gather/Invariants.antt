use Rattle.std.proofs.Common.{◌≡◌, ◌+◌, ◌≤◌, vec_len, vec_capacity, length}
use Rattle.std.specs.Prelude.{map, sum_by}
use Rattle.link_sessions.specs.Links.{view_by}
use Rattle.session_workers.specs.Courses.{IsWorker}
use Rattle.session_workers.specs.Teams.{AreDone, EachAt, views_of}
use Rattle.session_workers.proofs.gathering.gather.Given as goal

abbrev pub invariant-loop-worker : goal.invariant-loop-worker
invariant-loop-worker g l = record {
  each : EachAt (λ k w. IsWorker l.hall l.terms w.seat w.ends.items (map (view_by g.K.Link.taken g.K.Link.written g.K.Link.closed g.K.Link.is_shut g.K.Link.read_faults g.K.Link.write_faults) w.links.items) w.share.parts w.share.amount × (w.seat.account.number + (k + 1) ≡ l.terms.workers)) l.team.items;
  done : AreDone l.hall l.terms 0 l.seats.items l.rows.items (views_of (view_by g.K.Link.taken g.K.Link.written g.K.Link.closed g.K.Link.is_shut g.K.Link.read_faults g.K.Link.write_faults) l.links.items);
  seats : vec_len l.team + vec_len l.seats ≡ l.terms.workers;
  rows : vec_len l.team + vec_len l.rows ≡ l.terms.workers;
  links : vec_len l.team + vec_len l.links ≡ l.terms.workers;
  seat_room : l.terms.workers ≤ vec_capacity l.seats;
  row_room : l.terms.workers ≤ vec_capacity l.rows;
  link_room : l.terms.workers ≤ vec_capacity l.links;
  parts : l.all.parts ≡ vec_len l.seats;
  amount : l.all.amount ≡ sum_by (λ left. length left.links.items) l.links.items;
}

abbrev pub decreases-loop-worker : goal.decreases-loop-worker
decreases-loop-worker g l = vec_len l.team
