use Rattle.std.proofs.Common.{sym, ap, ◌∙◌, ◌≡◌, length, arith, List, ◌++◌, ◌+◌}
use Rattle.of10_msgs.specs.declared.message.Message.{Message}
use Rattle.std.proofs.lemmas.List.{append-nil}
use Rattle.std.proofs.lemmas.Result.{IfErr-weaker, IfOk-weaker, on_err_weaker}
use Rattle.of10_session.specs.Progresses.{Progress}
use Rattle.of10_session.specs.declared.turn.Turn.TheVariants.{Ask as AskFor}
use Rattle.of10_session.specs.Sessions.{turn, spelled}
use Rattle.of10_speech.specs.Speeches.{Said, told}
use Rattle.of10_speech.proofs.Asked.{hear_breaks, hear_says, hear_same}
use Rattle.of10_speech.proofs.Wide.{asking_wide}
use Rattle.of10_session.proofs.Turns.{turn_orderly}
use Rattle.of10_speech.proofs.hearing.hear.Goals as goal

pub settle-requires-clause-pending : goal.settle-requires-clause-pending
settle-requires-clause-pending g c h =
    let asks : (turn c.args.session.now c.args.message).turn ≡ AskFor c.in-Ok-Ask.ask = sym c.in-Ok-Ask.ensures.turn.turn ∙ c.in-Ok-Ask.field-0-is in
    ((turn_orderly c.args.session.now c.args.message c.requires.listening).asks c.in-Ok-Ask.ask asks).waits (ap (λ (s : Progress). s.pending) (sym c.in-Ok-Ask.ensures.turn.session) ∙ h)

pub settle-requires-clause-room : goal.settle-requires-clause-room
settle-requires-clause-room g c =
    let asks : (turn c.args.session.now c.args.message).turn ≡ AskFor c.in-Ok-Ask.ask = sym c.in-Ok-Ask.ensures.turn.turn ∙ c.in-Ok-Ask.field-0-is in
    omega (arith, ((turn_orderly c.args.session.now c.args.message c.requires.listening).asks c.in-Ok-Ask.ask asks).ignored, ap (λ (s : Progress). s.ignored) c.in-Ok-Ask.ensures.turn.session, c.requires.room)

pub returns-in-Ok-Ask-clause-said : goal.returns-in-Ok-Ask-clause-said
returns-in-Ok-Ask-clause-said g c =
    let asks : (turn c.args.session.now c.args.message).turn ≡ AskFor c.in-Ok-Ask.ask = sym c.in-Ok-Ask.ensures.turn.turn ∙ c.in-Ok-Ask.field-0-is in
    IfOk-weaker c.settle.result _ _ (λ stop h. hear_says (told g.P.Answers.declares g.P.Answers.given g.P.Answers.asked c.settle.new.program) c.args.place (length (g.P.Answers.given c.args.program.now)) c.args.session.now c.args.message c.in-Ok-Ask.ask c.step.new.self c.settle.new.session stop c.args.out.now.items c.step.new.out.items c.settle.new.out.items c.requires.listening asks c.in-Ok-Ask.ensures.turn.session c.in-Ok-Ask.ensures.turn.bytes h) c.settle.ensures.said

pub returns-in-Ok-Ask-clause-err : goal.returns-in-Ok-Ask-clause-err
returns-in-Ok-Ask-clause-err g c =
    let asks : (turn c.args.session.now c.args.message).turn ≡ AskFor c.in-Ok-Ask.ask = sym c.in-Ok-Ask.ensures.turn.turn ∙ c.in-Ok-Ask.field-0-is in
    let it = (turn_orderly c.args.session.now c.args.message c.requires.listening).asks c.in-Ok-Ask.ask asks in
    on_err_weaker c.settle.result (λ h. (
      ap (λ (s : Progress). s.ignored) (h.0 ∙ c.in-Ok-Ask.ensures.turn.session) ∙ it.ignored,
      h.1 ∙ (c.in-Ok-Ask.ensures.turn.bytes ∙ (ap (λ (ms : List Message). c.args.out.now.items ++ spelled ms) it.sent ∙ append-nil c.args.out.now.items)),
    )) c.settle.ensures.err

pub returns-in-Ok-Ask-clause-counts : goal.returns-in-Ok-Ask-clause-counts
returns-in-Ok-Ask-clause-counts g c =
    let asks : (turn c.args.session.now c.args.message).turn ≡ AskFor c.in-Ok-Ask.ask = sym c.in-Ok-Ask.ensures.turn.turn ∙ c.in-Ok-Ask.field-0-is in
    let same = hear_same (told g.P.Answers.declares g.P.Answers.given g.P.Answers.asked c.settle.new.program) c.args.place (length (g.P.Answers.given c.args.program.now)) c.args.session.now c.args.message c.in-Ok-Ask.ask c.step.new.self asks c.in-Ok-Ask.ensures.turn.session in
    IfOk-weaker c.settle.result _ _ (λ stop h goes. h goes ∙ ap (λ (y : Said). length (g.P.Answers.given c.args.program.now) + length y.asks) (sym same)) c.settle.ensures.counts

pub returns-in-Ok-Ask-clause-asked : goal.returns-in-Ok-Ask-clause-asked
returns-in-Ok-Ask-clause-asked g c =
    let asks : (turn c.args.session.now c.args.message).turn ≡ AskFor c.in-Ok-Ask.ask = sym c.in-Ok-Ask.ensures.turn.turn ∙ c.in-Ok-Ask.field-0-is in
    let same = hear_same (told g.P.Answers.declares g.P.Answers.given g.P.Answers.asked c.settle.new.program) c.args.place (length (g.P.Answers.given c.args.program.now)) c.args.session.now c.args.message c.in-Ok-Ask.ask c.step.new.self asks c.in-Ok-Ask.ensures.turn.session in
    IfOk-weaker c.settle.result _ _ (λ stop h. h ∙ ap (λ (y : Said). g.P.Answers.asked c.args.program.now ++ y.asks) (sym same)) c.settle.ensures.asked

pub settle-requires-clause-left : goal.settle-requires-clause-left
settle-requires-clause-left g c =
    let asks : (turn c.args.session.now c.args.message).turn ≡ AskFor c.in-Ok-Ask.ask = sym c.in-Ok-Ask.ensures.turn.turn ∙ c.in-Ok-Ask.field-0-is in
    omega (arith, asking_wide c.args.session.now c.args.message c.in-Ok-Ask.ask asks, c.requires.left)

pub returns-in-Ok-Ask-clause-left : goal.returns-in-Ok-Ask-clause-left
returns-in-Ok-Ask-clause-left g c =
    let asks : (turn c.args.session.now c.args.message).turn ≡ AskFor c.in-Ok-Ask.ask = sym c.in-Ok-Ask.ensures.turn.turn ∙ c.in-Ok-Ask.field-0-is in
    omega (arith, asking_wide c.args.session.now c.args.message c.in-Ok-Ask.ask asks, c.settle.ensures.left)

pub returns-in-Ok-Ask-clause-broken : goal.returns-in-Ok-Ask-clause-broken
returns-in-Ok-Ask-clause-broken g c =
    let asks : (turn c.args.session.now c.args.message).turn ≡ AskFor c.in-Ok-Ask.ask = sym c.in-Ok-Ask.ensures.turn.turn ∙ c.in-Ok-Ask.field-0-is in
    IfErr-weaker c.settle.result _ _ (λ why h. hear_breaks (told g.P.Answers.declares g.P.Answers.given g.P.Answers.asked c.settle.new.program) (told g.P.Answers.declares g.P.Answers.given g.P.Answers.asked c.args.program.now) c.args.place (length (g.P.Answers.given c.args.program.now)) c.args.session.now c.args.message c.in-Ok-Ask.ask c.step.new.self why c.requires.listening asks c.in-Ok-Ask.ensures.turn.session h) c.settle.ensures.broken
