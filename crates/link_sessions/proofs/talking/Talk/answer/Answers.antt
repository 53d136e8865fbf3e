use Rattle.std.proofs.Common.{◌≡◌, ◌∙◌, ◌+◌, ◌*◌, arith, subst, true, List, ℕ, Result}
use Rattle.std.proofs.lemmas.Result.{IfErr-weaker, on_ok_weaker}
use Rattle.of10_speech.specs.declared.stops.Broken.{Broken}
use Rattle.of10_speech.specs.declared.stops.SpeechStop.{SpeechStop}
use Rattle.of10_speech.specs.Speeches.{told}
use Rattle.vericon_edge.specs.Written.{Grown, GrownByFront}
use Rattle.link_sessions.specs.Links.{view_by}
use Rattle.link_sessions.specs.Pieces.{HearsPiece}
use Rattle.link_sessions.proofs.Turns.{answered_end, answered_fault, answered_whole, full_at, waits_at}
use Rattle.link_sessions.proofs.talking.Talk.answer.Goals as goal

pub returns-in_default-clause-err : goal.returns-in_default-clause-err
returns-in_default-clause-err g c =
    answered_fault (told g.P.Answers.declares g.P.Answers.given g.P.Answers.asked c.args.program.now) (told g.P.Answers.declares g.P.Answers.given g.P.Answers.asked c.hear_piece-heard.new.program) (g.P.Answers.is_full c.hear_piece-heard.new.program) c.args.self.now.number c.args.self.now.framer c.args.self.now.session c.args.self.now.taken c.args.piece.now c.hear_piece-heard.new.framer c.hear_piece-heard.new.session c.hear_piece-heard.new.out.items c.hear_piece-heard.result (16 * g.P.Answers.left c.args.program.now + c.args.self.now.framer.start) (g.P.Answers.left c.hear_piece-heard.new.program) (view_by g.K.Link.taken g.K.Link.written g.K.Link.closed g.K.Link.is_shut g.K.Link.read_faults g.K.Link.write_faults c.args.link.now) (view_by g.K.Link.taken g.K.Link.written g.K.Link.closed g.K.Link.is_shut g.K.Link.read_faults g.K.Link.write_faults c.write_whole.new.link) c.requires.taken c.hear_piece-heard.ensures.hears
    (subst (λ (l : List ℕ). GrownByFront (g.K.Link.written c.args.link.now) (g.K.Link.written c.write_whole.new.link) l) c.deref.ensures.value c.in_default.ensures.err) c.in_default.ensures.cause
    c.in_default.ensures.taken (c.in_default.ensures.closed ∙ c.requires.closed) c.in_default.ensures.read_faults (omega (arith, c.hear_piece-heard.ensures.few))

pub returns-clause-ok : goal.returns-clause-ok
returns-clause-ok g c =
    on_ok_weaker c.goes_on.result (λ goes. answered_whole (told g.P.Answers.declares g.P.Answers.given g.P.Answers.asked c.args.program.now) (told g.P.Answers.declares g.P.Answers.given g.P.Answers.asked c.hear_piece-heard.new.program) c.args.self.now.number c.args.self.now.framer c.args.self.now.session c.args.self.now.taken c.args.piece.now c.hear_piece-heard.new.framer c.hear_piece-heard.new.session c.hear_piece-heard.new.out.items (view_by g.K.Link.taken g.K.Link.written g.K.Link.closed g.K.Link.is_shut g.K.Link.read_faults g.K.Link.write_faults c.args.link.now) (view_by g.K.Link.taken g.K.Link.written g.K.Link.closed g.K.Link.is_shut g.K.Link.read_faults g.K.Link.write_faults c.write_whole.new.link) c.requires.taken
    (subst (λ (r : Result SpeechStop Broken). HearsPiece (told g.P.Answers.declares g.P.Answers.given g.P.Answers.asked c.args.program.now) (told g.P.Answers.declares g.P.Answers.given g.P.Answers.asked c.hear_piece-heard.new.program) c.args.self.now.framer c.args.self.now.session c.args.piece.now c.hear_piece-heard.new.framer c.hear_piece-heard.new.session c.hear_piece-heard.new.out.items r) goes c.hear_piece-heard.ensures.hears)
    (subst (λ (l : List ℕ). Grown (g.K.Link.written c.args.link.now) (g.K.Link.written c.write_whole.new.link) l) c.deref.ensures.value c.in-Ok.ensures.ok) c.in-Ok.ensures.taken) c.goes_on.ensures.ok

pub returns-clause-err : goal.returns-clause-err
returns-clause-err g c =
    IfErr-weaker c.goes_on.result _ _ (λ end is. answered_end (told g.P.Answers.declares g.P.Answers.given g.P.Answers.asked c.args.program.now) (told g.P.Answers.declares g.P.Answers.given g.P.Answers.asked c.hear_piece-heard.new.program) (g.P.Answers.is_full c.hear_piece-heard.new.program) c.args.self.now.number c.args.self.now.framer c.args.self.now.session c.args.self.now.taken c.args.piece.now c.hear_piece-heard.new.framer c.hear_piece-heard.new.session c.hear_piece-heard.new.out.items c.hear_piece-heard.result end (16 * g.P.Answers.left c.args.program.now + c.args.self.now.framer.start) (g.P.Answers.left c.hear_piece-heard.new.program) (view_by g.K.Link.taken g.K.Link.written g.K.Link.closed g.K.Link.is_shut g.K.Link.read_faults g.K.Link.write_faults c.args.link.now) (view_by g.K.Link.taken g.K.Link.written g.K.Link.closed g.K.Link.is_shut g.K.Link.read_faults g.K.Link.write_faults c.write_whole.new.link) c.requires.taken c.hear_piece-heard.ensures.hears is
    (full_at ((g.P.Answers.is_full c.hear_piece-heard.new.program) ≡ true) c.hear_piece-heard.result c.hear_piece-heard.ensures.full) (waits_at ((g.P.Answers.is_full c.hear_piece-heard.new.program) ≡ true) c.hear_piece-heard.result c.hear_piece-heard.ensures.waits)
    (subst (λ (l : List ℕ). Grown (g.K.Link.written c.args.link.now) (g.K.Link.written c.write_whole.new.link) l) c.deref.ensures.value c.in-Ok.ensures.ok) c.in-Ok.ensures.taken
    (record { closed = c.in-Ok.ensures.closed ∙ c.requires.closed; read_faults = c.in-Ok.ensures.read_faults; write_faults = c.in-Ok.ensures.steady }) (omega (arith, c.hear_piece-heard.ensures.few))) c.goes_on.ensures.err
