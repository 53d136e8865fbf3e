use Rattle.of10_speech.specs.Speeches.{told}
use Rattle.of10_speech.proofs.Echoed.{echo_heard}
use Rattle.of10_speech.proofs.hearing.hear_bytes.Goals as goal

pub returns-in-Ok-clause-hears : goal.returns-in-Ok-clause-hears
returns-in-Ok-clause-hears g c =
    echo_heard (told g.P.Answers.declares g.P.Answers.given g.P.Answers.asked c.args.program.now) c.args.place c.args.frame.now c.args.session.now c.args.out.now.items c.echo.new.out.items c.echo.ensures.request c.in-Ok.ensures.bytes
