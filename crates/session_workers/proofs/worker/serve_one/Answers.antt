use Rattle.std.proofs.Common.{◌≡◌, ℕ, ◌+◌, ◌*◌, ◌^◌, ◌<◌, List, [], ◌∷◌, ◌++◌, length, sym, ap, ◌∙◌, subst, arith}
use Rattle.std.specs.Prelude.{map}
use Rattle.std.proofs.lemmas.List.{map-append}
use Rattle.link_sessions.specs.declared.ends.Ended.{Ended}
use Rattle.link_sessions.specs.Links.{LinkView, view_by}
use Rattle.session_workers.specs.Courses.{HasServed, HasWorked, session_number}
use Rattle.session_workers.proofs.SeatWork.{worked_more}
use Rattle.session_workers.proofs.worker.serve_one.Goals as goal

pub returns-clause-worked : goal.returns-clause-worked
returns-clause-worked g c =
    let see : g.row.K.Denot → LinkView = view_by g.K.Link.taken g.K.Link.written g.K.Link.closed g.K.Link.is_shut g.K.Link.read_faults g.K.Link.write_faults in
    let w = c.args.worker.now in
    let t = c.args.terms.now in
    let hall = c.args.hall.now in
    let number : 1 + c.number.result + t.workers * c.len.result ≡ session_number t.workers w.seat.account.number (length w.ends.items) =
    λ z. (1 + c.number.ensures z) + t.workers * (c.len.ensures ∙ w.ends.ok.0) z in
    let served : HasServed hall.opening (1 + c.number.result + t.workers * c.len.result) t.most w.seat.account c.serve-ended.new.seat.account (see c.serve-ended.new.link) c.serve-ended.result =
    record { came = see c.args.link; unused = c.requires.unused; served = c.serve-ended.ensures.served } in
    let numbered = subst (λ (q : ℕ). HasServed hall.opening q t.most w.seat.account c.serve-ended.new.seat.account (see c.serve-ended.new.link) c.serve-ended.result) number served in
    let room : length w.ends.items < 2 ^ 20 = let f = c.requires.few in let k = w.ends.ok.0 in omega arith in
    let more = worked_more hall t w.seat c.serve-ended.new.seat w.ends.items (map see w.links.items) c.serve-ended.result (see c.serve-ended.new.link) c.requires.worked c.serve-ended.ensures.hall t.few_bytes room numbered in
    let links : map see c.push_reserved-2.new.self.items ≡ map see w.links.items ++ see c.serve-ended.new.link ∷ [] =
    ap (map see) c.push_reserved-2.ensures.items ∙ map-append see w.links.items (c.serve-ended.new.link ∷ []) in
    let R : List Ended × List LinkView → Type 0 = λ x. HasWorked hall t c.serve-ended.new.seat x.0 x.1 in
    subst R (λ i. (sym c.push_reserved.ensures.items i, sym links i)) more
