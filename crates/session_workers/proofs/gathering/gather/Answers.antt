use Rattle.std.proofs.Common.{◌≡◌, ℕ, ◌+◌, List, [], ◌∷◌, ◌++◌, length, sym, ap, ◌∙◌, subst, arith, vec_len}
use Rattle.std.specs.Prelude.{map, sum_by}
use Rattle.std.proofs.lemmas.List.{length-map}
use Rattle.std.proofs.lemmas.List.Sums.{sum_by-append}
use Rattle.shared_hall.specs.Halls.{SeatView}
use Rattle.shared_hall.specs.Views.{fresh_account}
use Rattle.link_sessions.specs.Links.{LinkView, view_by}
use Rattle.session_workers.specs.declared.row.Row.{Row}
use Rattle.session_workers.specs.declared.row.Links.{Links}
use Rattle.session_workers.specs.declared.worker.Worker.{Worker}
use Rattle.session_workers.specs.Courses.{IsWorker}
use Rattle.session_workers.specs.Teams.{AreDone, views_of}
use Rattle.session_workers.proofs.Members.{each_popped}
use Rattle.session_workers.proofs.SeatWork.{course_length, done_more}
use Rattle.session_workers.proofs.Given.{views_more}
use Rattle.session_workers.proofs.gathering.gather.Goals as goal

pub loop-worker-preserved : goal.loop-worker-preserved
loop-worker-preserved g c =
    let see : g.row.K.Denot → LinkView = view_by g.K.Link.taken g.K.Link.written g.K.Link.closed g.K.Link.is_shut g.K.Link.read_faults g.K.Link.write_faults in
    let inv = c.loop-worker.invariant in
    let w = c.in-Some.worker in
    let t = c.args.terms.now in
    let hall = c.args.hall.now in
    let P : ℕ → Worker g.row.K.Denot g.row.P.Denot → Type 0 = λ k x. IsWorker hall t x.seat x.ends.items (map see x.links.items) x.share.parts x.share.amount × (x.seat.account.number + (k + 1) ≡ t.workers) in
    let a = each_popped P c.loop-worker.team.items c.pop.new.self.items w c.in-Some.ensures.items inv.each in
    let less : vec_len c.loop-worker.team ≡ vec_len c.pop.new.self + 1 = sym c.in-Some.ensures.len in
    let number : w.seat.account.number ≡ 0 + length c.loop-worker.rows.items =
    let m = a.1.1 in let k = c.pop.new.self.ok.0 in let n = c.loop-worker.rows.ok.0 in let l = inv.rows in omega arith in
    let row : Row = record { ends = w.ends } in
    let left : Links g.row.K.Denot = record { links = w.links } in
    let more = done_more hall t 0 c.loop-worker.seats.items c.loop-worker.rows.items (views_of see c.loop-worker.links.items) w.seat row (map see w.links.items) inv.done a.1.0.worked number in
    let views : views_of see c.push_reserved-in-Some-2.new.self.items ≡ views_of see c.loop-worker.links.items ++ map see w.links.items ∷ [] =
    ap (views_of see) c.push_reserved-in-Some-2.ensures.items ∙ views_more see c.loop-worker.links.items left in
    let R : List SeatView × List Row × List (List LinkView) → Type 0 = λ x. AreDone hall t 0 x.0 x.1 x.2 in
    let as_many : length w.ends.items ≡ length w.links.items =
    course_length hall.opening t (1 + w.seat.account.number) (fresh_account w.seat.account.number) w.seat.account w.ends.items (map see w.links.items) a.1.0.worked.course ∙ length-map w.links.items see in
    let sum = sum_by-append (λ (l : Links g.row.K.Denot). length l.links.items) c.loop-worker.links.items (left ∷ []) in
    let sums = ap (sum_by (λ (l : Links g.row.K.Denot). length l.links.items)) c.push_reserved-in-Some-2.ensures.items in
    record {
      each = a.0;
      done = subst R (λ i. (sym c.push_reserved.ensures.items i, sym c.push_reserved-in-Some.ensures.items i, sym views i)) more;
      seats = let l = inv.seats in let k = c.push_reserved.ensures.len in omega arith;
      rows = let l = inv.rows in let k = c.push_reserved-in-Some.ensures.len in omega arith;
      links = let l = inv.links in let k = c.push_reserved-in-Some-2.ensures.len in omega arith;
      seat_room = let l = inv.seat_room in let k = c.push_reserved.ensures.capacity in omega arith;
      row_room = let l = inv.row_room in let k = c.push_reserved-in-Some.ensures.capacity in omega arith;
      link_room = let l = inv.link_room in let k = c.push_reserved-in-Some-2.ensures.capacity in omega arith;
      parts = let l = inv.parts in let k = c.merge.ensures.parts in let m = a.1.0.part in let n = c.push_reserved.ensures.len in omega arith;
      amount = let l = inv.amount in let k = c.merge.ensures.amount in let m = a.1.0.counted in omega (arith, sum, sums, as_many);
    }
