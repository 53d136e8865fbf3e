use Rattle.std.proofs.Common.{refl, ◌∙◌, ◌+◌, ◌*◌, arith, ap, sym, subst, ℕ}
use Rattle.of10_session.specs.Progresses.{Progress}
use Rattle.of10_speech.specs.Speeches.{told}
use Rattle.link_sessions.specs.declared.ends.Ended.{Ended}
use Rattle.link_sessions.specs.Links.{view_by}
use Rattle.link_sessions.specs.Pieces.{IsOver, Stands}
use Rattle.link_sessions.proofs.Over.{over_from}
use Rattle.link_sessions.proofs.Turns.{greeted, greeting_fault, no_session}
use Rattle.link_sessions.proofs.talking.speak_over.Goals as goal

pub returns-in_default-clause-said : goal.returns-in_default-clause-said
returns-in_default-clause-said g c = no_session (told g.P.Answers.declares g.P.Answers.given g.P.Answers.asked c.args.program.now) (g.P.Answers.is_full c.args.program.now) c.args.number c.args.most (g.P.Answers.left c.args.program.now) (view_by g.K.Link.taken g.K.Link.written g.K.Link.closed g.K.Link.is_shut g.K.Link.read_faults g.K.Link.write_faults c.args.link.now) (view_by g.K.Link.taken g.K.Link.written g.K.Link.closed g.K.Link.is_shut g.K.Link.read_faults g.K.Link.write_faults c.args.link.now) c.requires.given c.requires.asked c.requires.taken c.requires.written refl c.requires.closed

pub returns-in_default-vec-clause-said : goal.returns-in_default-vec-clause-said
returns-in_default-vec-clause-said g c = no_session (told g.P.Answers.declares g.P.Answers.given g.P.Answers.asked c.args.program.now) (g.P.Answers.is_full c.args.program.now) c.args.number c.args.most (g.P.Answers.left c.args.program.now) (view_by g.K.Link.taken g.K.Link.written g.K.Link.closed g.K.Link.is_shut g.K.Link.read_faults g.K.Link.write_faults c.args.link.now) (view_by g.K.Link.taken g.K.Link.written g.K.Link.closed g.K.Link.is_shut g.K.Link.read_faults g.K.Link.write_faults c.args.link.now) c.requires.given c.requires.asked c.requires.taken c.requires.written refl c.requires.closed

pub returns-in_default-write_whole-clause-said : goal.returns-in_default-write_whole-clause-said
returns-in_default-write_whole-clause-said g c =
    subst (λ (e : Ended). IsOver (told g.P.Answers.declares g.P.Answers.given g.P.Answers.asked c.args.program.now) (g.P.Answers.is_full c.args.program.now) c.args.number c.args.most (16 * (g.P.Answers.left c.args.program.now)) (g.P.Answers.left c.args.program.now) (view_by g.K.Link.taken g.K.Link.written g.K.Link.closed g.K.Link.is_shut g.K.Link.read_faults g.K.Link.write_faults c.args.link.now) (view_by g.K.Link.taken g.K.Link.written g.K.Link.closed g.K.Link.is_shut g.K.Link.read_faults g.K.Link.write_faults c.write_whole.new.link) e) (sym c.ended.ensures)
    (greeting_fault (told g.P.Answers.declares g.P.Answers.given g.P.Answers.asked c.args.program.now) (g.P.Answers.is_full c.args.program.now) c.args.number c.args.most (g.P.Answers.left c.args.program.now) c.in-Ok.talk.session.ignored c.deref.result.now (view_by g.K.Link.taken g.K.Link.written g.K.Link.closed g.K.Link.is_shut g.K.Link.read_faults g.K.Link.write_faults c.args.link.now) (view_by g.K.Link.taken g.K.Link.written g.K.Link.closed g.K.Link.is_shut g.K.Link.read_faults g.K.Link.write_faults c.write_whole.new.link) (ap (λ (p : Progress). p.ignored) c.in-Ok.ensures.begun.2) c.requires.given c.requires.asked (c.deref.ensures.value ∙ c.in-Ok.ensures.greeted) c.requires.taken c.requires.written
    c.in_default-write_whole.ensures.taken c.in_default-write_whole.ensures.err c.in_default-write_whole.ensures.cause (c.in_default-write_whole.ensures.closed ∙ c.requires.closed) c.in_default-write_whole.ensures.read_faults)

pub converse-requires-clause-stands : goal.converse-requires-clause-stands
converse-requires-clause-stands g c =
    let h = greeted (told g.P.Answers.declares g.P.Answers.given g.P.Answers.asked c.args.program.now) c.args.number c.in-Ok.talk.framer c.in-Ok.talk.session c.deref.result.now (view_by g.K.Link.taken g.K.Link.written g.K.Link.closed g.K.Link.is_shut g.K.Link.read_faults g.K.Link.write_faults c.args.link.now) (view_by g.K.Link.taken g.K.Link.written g.K.Link.closed g.K.Link.is_shut g.K.Link.read_faults g.K.Link.write_faults c.write_whole.new.link) c.requires.given c.requires.asked c.in-Ok.ensures.begun.1 c.in-Ok.ensures.begun.2 (c.deref.ensures.value ∙ c.in-Ok.ensures.greeted) c.requires.taken c.requires.written c.in-Ok-write_whole.ensures.taken c.in-Ok-write_whole.ensures.ok in
    subst (λ (n : ℕ). Stands (told g.P.Answers.declares g.P.Answers.given g.P.Answers.asked c.args.program.now) n c.in-Ok.talk.framer c.in-Ok.talk.session c.in-Ok.talk.taken (g.K.Link.taken c.write_whole.new.link) (g.K.Link.written c.write_whole.new.link)) (sym c.in-Ok.ensures.begun.0)
    (subst (λ (n : ℕ). Stands (told g.P.Answers.declares g.P.Answers.given g.P.Answers.asked c.args.program.now) c.args.number c.in-Ok.talk.framer c.in-Ok.talk.session n (g.K.Link.taken c.write_whole.new.link) (g.K.Link.written c.write_whole.new.link)) (sym c.in-Ok.ensures.begun.3) h)

pub returns-clause-said : goal.returns-clause-said
returns-clause-said g c =
    let h = over_from (told g.P.Answers.declares g.P.Answers.given g.P.Answers.asked c.converse.new.program) (g.P.Answers.is_full c.converse.new.program) c.in-Ok.talk.number c.args.most (16 * (g.P.Answers.left c.args.program.now)) (16 * (g.P.Answers.left c.args.program.now) + c.in-Ok.talk.framer.start) (g.P.Answers.left c.converse.new.program) (view_by g.K.Link.taken g.K.Link.written g.K.Link.closed g.K.Link.is_shut g.K.Link.read_faults g.K.Link.write_faults c.args.link.now) (view_by g.K.Link.taken g.K.Link.written g.K.Link.closed g.K.Link.is_shut g.K.Link.read_faults g.K.Link.write_faults c.write_whole.new.link) (view_by g.K.Link.taken g.K.Link.written g.K.Link.closed g.K.Link.is_shut g.K.Link.read_faults g.K.Link.write_faults c.converse.new.link) c.converse.result c.in-Ok-write_whole.ensures.read_faults c.in-Ok-write_whole.ensures.steady (omega arith) c.converse.ensures.said in
    subst (λ (n : ℕ). IsOver (told g.P.Answers.declares g.P.Answers.given g.P.Answers.asked c.converse.new.program) (g.P.Answers.is_full c.converse.new.program) n c.args.most (16 * (g.P.Answers.left c.args.program.now)) (g.P.Answers.left c.converse.new.program) (view_by g.K.Link.taken g.K.Link.written g.K.Link.closed g.K.Link.is_shut g.K.Link.read_faults g.K.Link.write_faults c.args.link.now) (view_by g.K.Link.taken g.K.Link.written g.K.Link.closed g.K.Link.is_shut g.K.Link.read_faults g.K.Link.write_faults c.converse.new.link) c.converse.result) c.in-Ok.ensures.begun.0 h
