use Rattle.std.proofs.Common.{◌≡◌}
use Rattle.std.specs.Prelude.{map}
use Rattle.link_sessions.specs.Links.{view_by}
use Rattle.session_workers.specs.Courses.{IsWorker}
use Rattle.session_workers.proofs.worker.work.Given as goal

abbrev pub invariant-loop-round : goal.invariant-loop-round
invariant-loop-round g l =
    IsWorker l.shift.hall.now l.shift.terms l.worker.seat l.worker.ends.items (map (view_by g.N.Link.Link.taken g.N.Link.Link.written g.N.Link.Link.closed g.N.Link.Link.is_shut g.N.Link.Link.read_faults g.N.Link.Link.write_faults) l.worker.links.items) l.worker.share.parts l.worker.share.amount
    × (l.worker.seat.account.number ≡ l.fn.worker.seat.account.number)
