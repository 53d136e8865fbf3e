use Rattle.std.proofs.Common.{refl, sym, ap, subst, ◌∙◌, ◌++◌, arith, ℕ, [], ◌∷◌}
use Rattle.of10_msgs.specs.declared.message.Message.TheVariants.{Hello}
use Rattle.of10_session.specs.Progresses.{Progress, in_phase, drawn}
use Rattle.of10_session.specs.declared.session.Phase.TheVariants.{Greet}
use Rattle.of10_session.specs.Sessions.{spelled}
use Rattle.of10_speech.specs.Speeches.{told}
use Rattle.of10_speech.specs.Hearings.{IsAnswer}
use Rattle.of10_speech.proofs.Following.{follows_nothing, following_next, following_stops, following_closed, hears_inside}
use Rattle.of10_speech.specs.declared.stops.SpeechStop.TheVariants.{Goes}
use Rattle.of10_speech.proofs.speaking.speak.Goals as goal

pub loop-at-init : goal.loop-at-init
loop-at-init g c = (
  follows_nothing (told g.P.Answers.declares g.P.Answers.given g.P.Answers.asked c.args.program.now) c.args.number c.args.bytes.now c.in-Ok.framer c.greet.new.self c.args.out.now.items c.greet.new.out.items c.requires.given c.requires.asked c.in-Ok.ensures.first
      (c.in-Ok-greet.ensures.session ∙ ap (λ (s : Progress). in_phase (drawn s) Greet) c.new-session.ensures)
      (c.in-Ok-greet.ensures.bytes ∙ ap (λ (s : Progress). c.args.out.now.items ++ spelled (Hello s.xid 1 [] ∷ [])) c.new-session.ensures),
  refl,
  refl,
  omega (arith, c.requires.left),
)

pub overflow_add-at : goal.overflow_add-at
overflow_add-at g c =
    let t = told g.P.Answers.declares g.P.Answers.given g.P.Answers.asked c.hear_next.new.program in
    let o = told g.P.Answers.declares g.P.Answers.given g.P.Answers.asked c.loop-at.program in
    let inside = hears_inside o t c.loop-at.at c.args.bytes.now c.loop-at.framer c.loop-at.session c.hear_next.new.framer c.hear_next.new.session c.in_ok-heard.heard c.loop-at.out.items c.hear_next.new.out.items c.loop-at.invariant.0.inside (rw c.rest_from.ensures at c.in_ok-heard.ensures.hears) in
    omega (arith, inside)

pub loop-at-preserved : goal.loop-at-preserved
loop-at-preserved g c = (
  following_next (told g.P.Answers.declares g.P.Answers.given g.P.Answers.asked c.loop-at.program) (told g.P.Answers.declares g.P.Answers.given g.P.Answers.asked c.hear_next.new.program) c.args.number c.args.bytes.now c.loop-at.at c.loop-at.framer c.loop-at.session c.hear_next.new.framer c.hear_next.new.session c.in_ok-heard.heard c.args.out.now.items c.loop-at.out.items c.hear_next.new.out.items
      c.in_ok-heard.ensures.further c.loop-at.invariant.0 (rw c.rest_from.ensures at c.in_ok-heard.ensures.hears) c.in-Goes.is,
  c.in_ok-heard.ensures.further.declares ∙ c.loop-at.invariant.1,
  c.in_ok-heard.ensures.source ∙ c.loop-at.invariant.2,
  omega (arith, c.in_ok-heard.ensures.going c.in-Goes.is, c.loop-at.invariant.3),
)

pub returns-in_default-stop-clause-answer : goal.returns-in_default-stop-clause-answer
returns-in_default-stop-clause-answer g c =
    let told_now = told g.P.Answers.declares g.P.Answers.given g.P.Answers.asked c.hear_next.new.program in
    subst (λ (n : ℕ). IsAnswer told_now c.args.number c.args.bytes.now c.args.out.now.items c.hear_next.new.out.items (record { stop = c.in_ok-heard.heard.stop; ignored = n })) (sym c.ignored.ensures)
    (following_stops (told g.P.Answers.declares g.P.Answers.given g.P.Answers.asked c.loop-at.program) told_now c.args.number c.args.bytes.now c.loop-at.at c.loop-at.framer c.loop-at.session c.hear_next.new.framer c.hear_next.new.session c.in_ok-heard.heard c.args.out.now.items c.loop-at.out.items c.hear_next.new.out.items
    c.in_ok-heard.ensures.further c.loop-at.invariant.0 (rw c.rest_from.ensures at c.in_ok-heard.ensures.hears) c.in_default-stop.not-Goes)

pub returns-clause-answer : goal.returns-clause-answer
returns-clause-answer g c =
    let told_now = told g.P.Answers.declares g.P.Answers.given g.P.Answers.asked c.loop-at.program in
    subst (λ (n : ℕ). IsAnswer told_now c.args.number c.args.bytes.now c.args.out.now.items c.loop-at.out.items (record { stop = Goes; ignored = n })) (sym c.ignored-2.ensures)
    (following_closed told_now c.args.number c.args.bytes.now c.loop-at.at c.loop-at.framer c.loop-at.session c.args.out.now.items c.loop-at.out.items c.loop-at.invariant.0 (omega (arith, c.loop-at-test.false)))
