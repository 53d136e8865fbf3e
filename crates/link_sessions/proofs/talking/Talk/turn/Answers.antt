use Rattle.std.proofs.Common.{◌∙◌, ◌+◌, ◌*◌, arith, subst, Ok, length, take}
use Rattle.std.proofs.lemmas.List.{length-take}
use Rattle.vericon_links.specs.declared.link.Got.{Got}
use Rattle.vericon_links.specs.Links.{ReadAnswers}
use Rattle.std.proofs.lemmas.Result.{IfErr-weaker}
use Rattle.of10_speech.specs.Speeches.{told}
use Rattle.link_sessions.specs.Links.{view_by}
use Rattle.link_sessions.proofs.Turns.{over_later, read_closed, read_failed}
use Rattle.link_sessions.proofs.talking.Talk.turn.Goals as goal

pub returns-in-Ok-Bytes-clause-err : goal.returns-in-Ok-Bytes-clause-err
returns-in-Ok-Bytes-clause-err g c =
    let a = (subst (λ (r : Got). ReadAnswers (g.K.Link.taken c.args.link.now) (g.K.Link.taken c.read.new.self) c.read.new.into (g.K.Link.closed c.args.link.now) (g.K.Link.closed c.read.new.self) (g.K.Link.read_faults c.args.link.now) (g.K.Link.read_faults c.read.new.self) (Ok r)) c.in-Ok-Bytes.field-0-is c.in-Ok-Bytes.ensures.answer) in
    IfErr-weaker c.answer.result _ _ (λ end over. over_later (told g.P.Answers.declares g.P.Answers.given g.P.Answers.asked c.answer.new.program) (g.P.Answers.is_full c.answer.new.program) c.args.self.now.number (c.args.self.now.taken + length c.args.into.now) (c.args.self.now.taken + length (take c.in-Ok-Bytes.n c.read.new.into)) (16 * g.P.Answers.left c.args.program.now + c.args.self.now.framer.start) (g.P.Answers.left c.answer.new.program)
    (view_by g.K.Link.taken g.K.Link.written g.K.Link.closed g.K.Link.is_shut g.K.Link.read_faults g.K.Link.write_faults c.args.link.now) (view_by g.K.Link.taken g.K.Link.written g.K.Link.closed g.K.Link.is_shut g.K.Link.read_faults g.K.Link.write_faults c.read.new.self) (view_by g.K.Link.taken g.K.Link.written g.K.Link.closed g.K.Link.is_shut g.K.Link.read_faults g.K.Link.write_faults c.answer.new.link) (record { end = end; ignored = c.answer.new.self.session.ignored }) a.4 c.in-Ok-Bytes.ensures.write_faults
    (omega (arith, length-take c.in-Ok-Bytes.n c.read.new.into, a.1, c.read.auto.into)) over) c.answer.ensures.err

pub returns-in-Ok-Closed-clause-err : goal.returns-in-Ok-Closed-clause-err
returns-in-Ok-Closed-clause-err g c =
    let a = (subst (λ (r : Got). ReadAnswers (g.K.Link.taken c.args.link.now) (g.K.Link.taken c.read.new.self) c.read.new.into (g.K.Link.closed c.args.link.now) (g.K.Link.closed c.read.new.self) (g.K.Link.read_faults c.args.link.now) (g.K.Link.read_faults c.read.new.self) (Ok r)) c.in-Ok-Closed.field-0-is c.in-Ok-Closed.ensures.answer) in
    read_closed (told g.P.Answers.declares g.P.Answers.given g.P.Answers.asked c.args.program.now) (g.P.Answers.is_full c.args.program.now) c.args.self.now.number c.args.self.now.framer c.args.self.now.session c.args.self.now.taken (g.P.Answers.left c.args.program.now) (view_by g.K.Link.taken g.K.Link.written g.K.Link.closed g.K.Link.is_shut g.K.Link.read_faults g.K.Link.write_faults c.args.link.now) (view_by g.K.Link.taken g.K.Link.written g.K.Link.closed g.K.Link.is_shut g.K.Link.read_faults g.K.Link.write_faults c.read.new.self) c.requires.stands a.0 c.in-Ok-Closed.ensures.written
    (length c.args.into.now) c.requires.some a.1 a.2 c.in-Ok-Closed.ensures.write_faults

pub returns-in-Err-clause-err : goal.returns-in-Err-clause-err
returns-in-Err-clause-err g c =
    read_failed (told g.P.Answers.declares g.P.Answers.given g.P.Answers.asked c.args.program.now) (g.P.Answers.is_full c.args.program.now) c.args.self.now.number c.args.self.now.framer c.args.self.now.session c.args.self.now.taken (g.P.Answers.left c.args.program.now) (view_by g.K.Link.taken g.K.Link.written g.K.Link.closed g.K.Link.is_shut g.K.Link.read_faults g.K.Link.write_faults c.args.link.now) (view_by g.K.Link.taken g.K.Link.written g.K.Link.closed g.K.Link.is_shut g.K.Link.read_faults g.K.Link.write_faults c.read.new.self) c.requires.stands c.in-Err.ensures.answer.0 c.in-Err.ensures.written
    (length c.args.into.now) c.requires.some (c.in-Err.ensures.answer.1 ∙ c.requires.closed) c.in-Err.ensures.answer.2 c.in-Err.ensures.write_faults
