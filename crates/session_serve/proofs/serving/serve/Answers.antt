use Rattle.std.proofs.Common.{ap, ◌∙◌, ◌-◌, ◌^◌, subst, sym}
use Rattle.shared_hall.specs.Halls.{HallView, SeatView}
use Rattle.session_entries.specs.Additions.{is_full, told_since}
use Rattle.link_sessions.specs.Links.{view_by}
use Rattle.link_sessions.specs.Said.{IsSaidOver}
use Rattle.session_serve.specs.Servings.{IsServed}
use Rattle.session_serve.proofs.Served.{served}
use Rattle.session_serve.proofs.serving.serve.Goals as goal

pub returns-clause-hall : goal.returns-clause-hall
returns-clause-hall g c = ap (λ (v : SeatView). v.hall) (c.seat-1.given.1 (sym c.new-entries.ensures.same_reference ∙ sym c.hold-ended.ensures.same_reference) ∙ c.drop-entries.ensures) ∙ (c.hold-ended.new.entries.here ∙ (c.hold-ended.ensures.hall ∙ c.new-entries.ensures.hall))

pub returns-clause-served : goal.returns-clause-served
returns-clause-served g c =
    subst (λ (v : SeatView). IsServed c.args.hall.now.opening c.args.number c.args.most c.args.seat.now.account v.account (view_by g.K.Link.taken g.K.Link.written g.K.Link.closed g.K.Link.is_shut g.K.Link.read_faults g.K.Link.write_faults c.args.link.now) (view_by g.K.Link.taken g.K.Link.written g.K.Link.closed g.K.Link.is_shut g.K.Link.read_faults g.K.Link.write_faults c.shut.new.self) c.hold-ended.result) (sym (c.seat-1.given.1 (sym c.new-entries.ensures.same_reference ∙ sym c.hold-ended.ensures.same_reference) ∙ c.drop-entries.ensures))
    (served c.args.hall.now.opening c.hold-ended.new.entries.hall.now.opening c.args.number c.hold-ended.new.entries.session c.args.most c.args.seat.now.account c.hold-ended.new.entries.begun.value.account c.hold-ended.new.entries.seat.now.account (view_by g.K.Link.taken g.K.Link.written g.K.Link.closed g.K.Link.is_shut g.K.Link.read_faults g.K.Link.write_faults c.args.link.now) (view_by g.K.Link.taken g.K.Link.written g.K.Link.closed g.K.Link.is_shut g.K.Link.read_faults g.K.Link.write_faults c.hold-ended.new.link) (view_by g.K.Link.taken g.K.Link.written g.K.Link.closed g.K.Link.is_shut g.K.Link.read_faults g.K.Link.write_faults c.shut.new.self) c.hold-ended.result
    (ap (λ (h : HallView). h.opening) (c.hold-ended.ensures.hall ∙ c.new-entries.ensures.hall)) (c.hold-ended.ensures.session ∙ c.new-entries.ensures.session) (ap (λ (v : SeatView). v.account) (c.hold-ended.ensures.begun ∙ c.new-entries.ensures.begun)) c.hold-ended.new.entries.keeps
    (subst (λ (v : SeatView). IsSaidOver (told_since c.hold-ended.new.entries.hall.now.opening c.hold-ended.new.entries.session c.hold-ended.new.entries.begun.value.account c.hold-ended.new.entries.seat.now.account) (is_full c.hold-ended.new.entries.hall.now.opening c.hold-ended.new.entries.seat.now.account) c.args.number c.args.most (2 ^ 56 - v.account.acts) (2 ^ 56 - c.hold-ended.new.entries.seat.now.account.acts) (view_by g.K.Link.taken g.K.Link.written g.K.Link.closed g.K.Link.is_shut g.K.Link.read_faults g.K.Link.write_faults c.args.link.now) (view_by g.K.Link.taken g.K.Link.written g.K.Link.closed g.K.Link.is_shut g.K.Link.read_faults g.K.Link.write_faults c.hold-ended.new.link) c.hold-ended.result) c.new-entries.ensures.seat c.hold-ended.ensures.said)
    c.requires.acts c.hold-ended.new.entries.few
    (record { taken = c.shut.ensures.taken; written = c.shut.ensures.written; closed = c.shut.ensures.closed; read_faults = c.shut.ensures.read_faults; write_faults = c.shut.ensures.write_faults }) c.shut.ensures.is_shut)
