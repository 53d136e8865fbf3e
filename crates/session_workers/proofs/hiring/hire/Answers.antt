use Rattle.std.proofs.Common.{◌≡◌, ℕ, ◌+◌, ◌<◌, List, [], length, sym, ap, ◌∙◌, subst, arith, vec_len}
use Rattle.std.specs.Prelude.{map}
use Rattle.shared_hall.specs.Halls.{SeatView, fresh_seats}
use Rattle.link_sessions.specs.declared.ends.Ended.{Ended}
use Rattle.link_sessions.specs.Links.{LinkView, view_by}
use Rattle.session_workers.specs.declared.worker.Worker.{Worker}
use Rattle.session_workers.specs.Courses.{IsWorker}
use Rattle.session_workers.proofs.Members.{each_pushed}
use Rattle.session_workers.proofs.SeatWork.{popped, worker_fresh}
use Rattle.session_workers.proofs.hiring.hire.Goals as goal

pub loop-seat-preserved : goal.loop-seat-preserved
loop-seat-preserved g c =
    let see : g.row.K.Denot → LinkView = view_by g.K.Link.taken g.K.Link.written g.K.Link.closed g.K.Link.is_shut g.K.Link.read_faults g.K.Link.write_faults in
    let inv = c.loop-seat.invariant in
    let n = vec_len c.pop.new.self in
    let t = c.args.terms.now in
    let hall = c.args.hall.now in
    let share = c.split_off-share.result in
    let one : vec_len c.loop-seat.seats ≡ n + 1 = sym c.in-Some.ensures.len in
    let p = popped hall n c.loop-seat.seats.items c.pop.new.self.items c.in-Some.seat (inv.seats ∙ ap (fresh_seats hall) one) c.in-Some.ensures.items in
    let number : c.in-Some.seat.account.number ≡ n = ap (λ (s : SeatView). s.account.number) p.1 in
    let few : n < t.workers = let l = inv.len in omega arith in
    let new : IsWorker hall t c.in-Some.seat [] [] share.parts share.amount = worker_fresh hall t n c.in-Some.seat share.parts share.amount p.1 few c.split_off-share.ensures.parts c.split_off-share.ensures.amount in
    let P : ℕ → Worker g.row.K.Denot g.row.P.Denot → Type 0 = λ k x. IsWorker hall t x.seat x.ends.items (map see x.links.items) x.share.parts x.share.amount × (x.seat.account.number + (k + 1) ≡ t.workers) in
    let Q : List Ended × List g.row.K.Denot → Type 0 = λ x. IsWorker hall t c.in-Some.seat x.0 (map see x.1) share.parts share.amount in
    let ready : Q (c.new.result.items, c.new-in-Some.result.items) = subst Q (λ i. (sym c.new.ensures.items i, sym c.new-in-Some.ensures.items i)) new in
    let place : c.in-Some.seat.account.number + (length c.loop-seat.team.items + 1) ≡ t.workers = let l = inv.len in let k = c.loop-seat.team.ok.0 in omega arith in
    record {
      seats = p.0;
      each = each_pushed P c.loop-seat.team.items c.push_reserved.new.self.items _ c.push_reserved.ensures.items inv.each (ready, place);
      len = let l = inv.len in let k = c.push_reserved.ensures.len in omega arith;
      room = let l = inv.room in let k = c.push_reserved.ensures.capacity in omega arith;
      parts = let l = inv.parts in let k = c.split_off-share.ensures.parts_left in omega arith;
      amount = let l = inv.amount in let k = c.split_off-share.ensures.amount_left in omega arith;
    }
