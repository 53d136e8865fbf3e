use Rattle.std.proofs.Common.{◌≡◌, ◌≤◌, ◌+◌, ◌*◌, arith, sym, subst, ℕ, length, take}
use Rattle.std.proofs.lemmas.List.{length-take}
use Rattle.of10_speech.specs.Speeches.{told}
use Rattle.link_sessions.specs.declared.ends.Ended.{Ended}
use Rattle.link_sessions.specs.declared.ends.SessionEnd.TheVariants.{StreamFull}
use Rattle.link_sessions.specs.Links.{view_by}
use Rattle.link_sessions.specs.Pieces.{IsOver, Stands}
use Rattle.link_sessions.proofs.Over.{over_from}
use Rattle.link_sessions.proofs.Turns.{stream_full}
use Rattle.link_sessions.proofs.talking.Talk.converse.Goals as goal

pub returns-in-Err-clause-said : goal.returns-in-Err-clause-said
returns-in-Err-clause-said g c =
    let i = c.loop-self.invariant in
    let less : c.loop-self.self.taken + length (take c.min-room.result c.loop-self.buffer) ≤ c.args.most = omega (arith, length-take c.min-room.result c.loop-self.buffer, c.min-room.ensures, i.within) in
    let h = over_from (told g.P.Answers.declares g.P.Answers.given g.P.Answers.asked c.turn.new.program) (g.P.Answers.is_full c.turn.new.program) c.loop-self.self.number c.args.most (16 * g.P.Answers.left c.args.program.now + c.args.self.now.framer.start) (16 * g.P.Answers.left c.loop-self.program + c.loop-self.self.framer.start) (g.P.Answers.left c.turn.new.program) (view_by g.K.Link.taken g.K.Link.written g.K.Link.closed g.K.Link.is_shut g.K.Link.read_faults g.K.Link.write_faults c.args.link.now) (view_by g.K.Link.taken g.K.Link.written g.K.Link.closed g.K.Link.is_shut g.K.Link.read_faults g.K.Link.write_faults c.loop-self.link) (view_by g.K.Link.taken g.K.Link.written g.K.Link.closed g.K.Link.is_shut g.K.Link.read_faults g.K.Link.write_faults c.turn.new.link) (record { end = c.in-Err.end; ignored = c.turn.new.self.session.ignored }) i.read_faults i.write_faults i.reach (c.in-Err.ensures.err c.args.most less) in
    subst (λ (e : Ended). IsOver (told g.P.Answers.declares g.P.Answers.given g.P.Answers.asked c.turn.new.program) (g.P.Answers.is_full c.turn.new.program) c.args.self.now.number c.args.most (16 * g.P.Answers.left c.args.program.now + c.args.self.now.framer.start) (g.P.Answers.left c.turn.new.program) (view_by g.K.Link.taken g.K.Link.written g.K.Link.closed g.K.Link.is_shut g.K.Link.read_faults g.K.Link.write_faults c.args.link.now) (view_by g.K.Link.taken g.K.Link.written g.K.Link.closed g.K.Link.is_shut g.K.Link.read_faults g.K.Link.write_faults c.turn.new.link) e) (sym c.ended.ensures)
    (subst (λ (n : ℕ). IsOver (told g.P.Answers.declares g.P.Answers.given g.P.Answers.asked c.turn.new.program) (g.P.Answers.is_full c.turn.new.program) n c.args.most (16 * g.P.Answers.left c.args.program.now + c.args.self.now.framer.start) (g.P.Answers.left c.turn.new.program) (view_by g.K.Link.taken g.K.Link.written g.K.Link.closed g.K.Link.is_shut g.K.Link.read_faults g.K.Link.write_faults c.args.link.now) (view_by g.K.Link.taken g.K.Link.written g.K.Link.closed g.K.Link.is_shut g.K.Link.read_faults g.K.Link.write_faults c.turn.new.link) (record { end = c.in-Err.end; ignored = c.turn.new.self.session.ignored })) i.number h)

pub returns-clause-said : goal.returns-clause-said
returns-clause-said g c =
    let i = c.loop-self.invariant in
    let all : c.loop-self.self.taken ≡ c.args.most = omega (arith, i.within, c.loop-self-test.false) in
    let h = stream_full (told g.P.Answers.declares g.P.Answers.given g.P.Answers.asked c.loop-self.program) (g.P.Answers.is_full c.loop-self.program) c.loop-self.self.number c.loop-self.self.framer c.loop-self.self.session c.args.most (16 * g.P.Answers.left c.args.program.now + c.args.self.now.framer.start) (g.P.Answers.left c.loop-self.program) (view_by g.K.Link.taken g.K.Link.written g.K.Link.closed g.K.Link.is_shut g.K.Link.read_faults g.K.Link.write_faults c.args.link.now) (view_by g.K.Link.taken g.K.Link.written g.K.Link.closed g.K.Link.is_shut g.K.Link.read_faults g.K.Link.write_faults c.loop-self.link)
    (subst (λ (n : ℕ). Stands (told g.P.Answers.declares g.P.Answers.given g.P.Answers.asked c.loop-self.program) c.loop-self.self.number c.loop-self.self.framer c.loop-self.self.session n (g.K.Link.taken c.loop-self.link) (g.K.Link.written c.loop-self.link)) all i.stands)
    (record { closed = i.closed; read_faults = i.read_faults; write_faults = i.write_faults }) i.reach in
    subst (λ (e : Ended). IsOver (told g.P.Answers.declares g.P.Answers.given g.P.Answers.asked c.loop-self.program) (g.P.Answers.is_full c.loop-self.program) c.args.self.now.number c.args.most (16 * g.P.Answers.left c.args.program.now + c.args.self.now.framer.start) (g.P.Answers.left c.loop-self.program) (view_by g.K.Link.taken g.K.Link.written g.K.Link.closed g.K.Link.is_shut g.K.Link.read_faults g.K.Link.write_faults c.args.link.now) (view_by g.K.Link.taken g.K.Link.written g.K.Link.closed g.K.Link.is_shut g.K.Link.read_faults g.K.Link.write_faults c.loop-self.link) e) (sym c.ended-2.ensures)
    (subst (λ (n : ℕ). IsOver (told g.P.Answers.declares g.P.Answers.given g.P.Answers.asked c.loop-self.program) (g.P.Answers.is_full c.loop-self.program) n c.args.most (16 * g.P.Answers.left c.args.program.now + c.args.self.now.framer.start) (g.P.Answers.left c.loop-self.program) (view_by g.K.Link.taken g.K.Link.written g.K.Link.closed g.K.Link.is_shut g.K.Link.read_faults g.K.Link.write_faults c.args.link.now) (view_by g.K.Link.taken g.K.Link.written g.K.Link.closed g.K.Link.is_shut g.K.Link.read_faults g.K.Link.write_faults c.loop-self.link) (record { end = StreamFull; ignored = c.loop-self.self.session.ignored })) i.number h)
