use Rattle.std.proofs.Common.{take, refl, sym, ◌∙◌}
use Rattle.of10_speech.specs.Speeches.{told}
use Rattle.of10_speech.proofs.Frames.{fed_frame, handed_on, whole_alone, whole_breaks, whole_heard, was_true}
use Rattle.of10_speech.proofs.hearing.hear_next.Goals as goal

pub returns-in_ok-stop-in-Ok-clause-hears : goal.returns-in_ok-stop-in-Ok-clause-hears
returns-in_ok-stop-in-Ok-clause-hears g c =
    fed_frame (told g.P.Answers.declares g.P.Answers.given g.P.Answers.asked c.args.program.now) (told g.P.Answers.declares g.P.Answers.given g.P.Answers.asked c.hear_frame.new.program) c.args.framer.now c.args.session.now c.args.piece.now c.feed.new.self c.in-Ok.fed c.hear_frame.new.framer c.hear_frame.new.session c.in_ok-stop-in-Ok.stop c.args.out.now.items c.hear_frame.new.out.items
    c.requires.framer c.in-Ok.ensures.taken (was_true c.in-Ok.fed.ready c.if-not-fed.false) c.in_ok-stop-in-Ok.ensures.hears

pub hear_bytes-requires-clause-frame : goal.hear_bytes-requires-clause-frame
hear_bytes-requires-clause-frame g c = whole_alone c.args.piece.now c.in-Frame.len (sym c.opening_of.ensures.opening ∙ c.in-Frame.is)

pub returns-in-Frame-clause-hears : goal.returns-in-Frame-clause-hears
returns-in-Frame-clause-hears g c =
    whole_heard (told g.P.Answers.declares g.P.Answers.given g.P.Answers.asked c.args.program.now) (told g.P.Answers.declares g.P.Answers.given g.P.Answers.asked c.hear_bytes.new.program) c.args.framer.now c.args.session.now c.args.piece.now c.in-Frame.len c.start.result (take c.in-Frame.len c.args.piece.now)
    c.pass.new.self c.hear_bytes.new.session c.in_ok-stop.stop c.args.out.now.items c.hear_bytes.new.out.items c.requires.framer (c.is_empty.ensures.0 c.if-is_empty.true) (sym c.opening_of.ensures.opening ∙ c.in-Frame.is) c.start.ensures refl c.pass.ensures.behind c.in_ok-stop.ensures.hears

pub returns-in_err-stop-clause-broken : goal.returns-in_err-stop-clause-broken
returns-in_err-stop-clause-broken g c =
    handed_on c.from_residual.result c.in_err-stop.field-0.0 _ c.from_residual.ensures.1
    (whole_breaks (told g.P.Answers.declares g.P.Answers.given g.P.Answers.asked c.args.program.now) (told g.P.Answers.declares g.P.Answers.given g.P.Answers.asked c.hear_bytes.new.program) c.args.framer.now c.args.session.now c.args.piece.now c.in-Frame.len c.start.result (take c.in-Frame.len c.args.piece.now) c.in_err-stop.field-0.0
    (c.is_empty.ensures.0 c.if-is_empty.true) (sym c.opening_of.ensures.opening ∙ c.in-Frame.is) c.start.ensures refl c.in_err-stop.ensures.broken)
