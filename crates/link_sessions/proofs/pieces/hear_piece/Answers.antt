use Rattle.std.proofs.Common.{refl, ap, ◌∙◌, ◌≡◌, arith, true, ℕ, List, Result, length, length-drop}
use Rattle.std.specs.Prelude.{IfErr}
use Rattle.of10_speech.specs.declared.stops.Broken.{Broken}
use Rattle.of10_speech.specs.declared.stops.Broken.TheVariants.{Full}
use Rattle.of10_speech.specs.declared.stops.SpeechStop.{SpeechStop}
use Rattle.of10_speech.specs.Speeches.{told}
use Rattle.of10_speech.proofs.Following.{hears_inside}
use Rattle.link_sessions.specs.Pieces.{HearsPiece}
use Rattle.link_sessions.proofs.Cuts.{no_further, still_further}
use Rattle.link_sessions.proofs.Piece.{err_is, is_there, some_all, some_breaks, some_next, some_nothing, some_stops}
use Rattle.link_sessions.proofs.pieces.hear_piece.Goals as goal

pub loop-at-init : goal.loop-at-init
loop-at-init g c = record {
  heard = some_nothing (told g.P.Answers.declares g.P.Answers.given g.P.Answers.asked c.args.program.now) c.args.framer.now c.args.session.now c.args.piece.now c.args.out.now.items c.requires.out;
  within = omega arith;
  further = no_further (told g.P.Answers.declares g.P.Answers.given g.P.Answers.asked c.args.program.now);
  source = refl;
  reach = omega arith;
}

pub hear_next-requires-clause-framer : goal.hear_next-requires-clause-framer
hear_next-requires-clause-framer g c =
    let r = is_there (told g.P.Answers.declares g.P.Answers.given g.P.Answers.asked c.args.program.now) (told g.P.Answers.declares g.P.Answers.given g.P.Answers.asked c.loop-at.program) c.args.framer.now c.args.session.now c.args.piece.now c.loop-at.at c.loop-at.framer c.loop-at.session c.loop-at.out.items c.requires.stands c.loop-at.invariant.heard in
    let rest = ap (λ (l : List ℕ). length l) c.rest_from.ensures ∙ length-drop c.loop-at.at c.args.piece.now in
    r.framer

pub hear_next-requires-clause-room : goal.hear_next-requires-clause-room
hear_next-requires-clause-room g c =
    let r = is_there (told g.P.Answers.declares g.P.Answers.given g.P.Answers.asked c.args.program.now) (told g.P.Answers.declares g.P.Answers.given g.P.Answers.asked c.loop-at.program) c.args.framer.now c.args.session.now c.args.piece.now c.loop-at.at c.loop-at.framer c.loop-at.session c.loop-at.out.items c.requires.stands c.loop-at.invariant.heard in
    let rest = ap (λ (l : List ℕ). length l) c.rest_from.ensures ∙ length-drop c.loop-at.at c.args.piece.now in
    omega (arith, rest, r.place, r.inside, c.requires.room)

pub hear_next-requires-clause-listening : goal.hear_next-requires-clause-listening
hear_next-requires-clause-listening g c =
    let r = is_there (told g.P.Answers.declares g.P.Answers.given g.P.Answers.asked c.args.program.now) (told g.P.Answers.declares g.P.Answers.given g.P.Answers.asked c.loop-at.program) c.args.framer.now c.args.session.now c.args.piece.now c.loop-at.at c.loop-at.framer c.loop-at.session c.loop-at.out.items c.requires.stands c.loop-at.invariant.heard in
    let rest = ap (λ (l : List ℕ). length l) c.rest_from.ensures ∙ length-drop c.loop-at.at c.args.piece.now in
    r.listens

pub hear_next-requires-clause-count : goal.hear_next-requires-clause-count
hear_next-requires-clause-count g c =
    let r = is_there (told g.P.Answers.declares g.P.Answers.given g.P.Answers.asked c.args.program.now) (told g.P.Answers.declares g.P.Answers.given g.P.Answers.asked c.loop-at.program) c.args.framer.now c.args.session.now c.args.piece.now c.loop-at.at c.loop-at.framer c.loop-at.session c.loop-at.out.items c.requires.stands c.loop-at.invariant.heard in
    let rest = ap (λ (l : List ℕ). length l) c.rest_from.ensures ∙ length-drop c.loop-at.at c.args.piece.now in
    omega (arith, r.few, r.inside, c.requires.room)

pub hear_next-requires-clause-left : goal.hear_next-requires-clause-left
hear_next-requires-clause-left g c =
    let r = is_there (told g.P.Answers.declares g.P.Answers.given g.P.Answers.asked c.args.program.now) (told g.P.Answers.declares g.P.Answers.given g.P.Answers.asked c.loop-at.program) c.args.framer.now c.args.session.now c.args.piece.now c.loop-at.at c.loop-at.framer c.loop-at.session c.loop-at.out.items c.requires.stands c.loop-at.invariant.heard in
    let rest = ap (λ (l : List ℕ). length l) c.rest_from.ensures ∙ length-drop c.loop-at.at c.args.piece.now in
    omega (arith, rest, r.place, r.inside, c.requires.left, c.loop-at.invariant.reach)

pub overflow_add-at : goal.overflow_add-at
overflow_add-at g c =
    let inside = hears_inside (told g.P.Answers.declares g.P.Answers.given g.P.Answers.asked c.loop-at.program) (told g.P.Answers.declares g.P.Answers.given g.P.Answers.asked c.hear_next.new.program) c.loop-at.at c.args.piece.now c.loop-at.framer c.loop-at.session c.hear_next.new.framer c.hear_next.new.session c.in_ok-heard.heard c.loop-at.out.items c.hear_next.new.out.items c.loop-at.invariant.within (rw c.rest_from.ensures at c.in_ok-heard.ensures.hears) in
    omega (arith, inside)

pub loop-at-preserved : goal.loop-at-preserved
loop-at-preserved g c = record {
  heard = some_next (told g.P.Answers.declares g.P.Answers.given g.P.Answers.asked c.args.program.now) (told g.P.Answers.declares g.P.Answers.given g.P.Answers.asked c.loop-at.program) (told g.P.Answers.declares g.P.Answers.given g.P.Answers.asked c.hear_next.new.program) c.args.framer.now c.args.session.now c.args.piece.now c.loop-at.at c.loop-at.framer c.loop-at.session c.hear_next.new.framer c.hear_next.new.session c.in_ok-heard.heard c.loop-at.out.items c.hear_next.new.out.items c.in_ok-heard.ensures.further c.loop-at.invariant.heard (rw c.rest_from.ensures at c.in_ok-heard.ensures.hears) c.in-Goes.is;
  within = hears_inside (told g.P.Answers.declares g.P.Answers.given g.P.Answers.asked c.loop-at.program) (told g.P.Answers.declares g.P.Answers.given g.P.Answers.asked c.hear_next.new.program) c.loop-at.at c.args.piece.now c.loop-at.framer c.loop-at.session c.hear_next.new.framer c.hear_next.new.session c.in_ok-heard.heard c.loop-at.out.items c.hear_next.new.out.items c.loop-at.invariant.within (rw c.rest_from.ensures at c.in_ok-heard.ensures.hears);
  further = still_further (told g.P.Answers.declares g.P.Answers.given g.P.Answers.asked c.args.program.now) (told g.P.Answers.declares g.P.Answers.given g.P.Answers.asked c.loop-at.program) (told g.P.Answers.declares g.P.Answers.given g.P.Answers.asked c.hear_next.new.program) c.loop-at.invariant.further c.in_ok-heard.ensures.further;
  source = c.in_ok-heard.ensures.source ∙ c.loop-at.invariant.source;
  reach = omega (arith, c.in_ok-heard.ensures.going c.in-Goes.is, c.loop-at.invariant.reach);
}

pub returns-in_default-clause-hears : goal.returns-in_default-clause-hears
returns-in_default-clause-hears g c =
    some_stops (told g.P.Answers.declares g.P.Answers.given g.P.Answers.asked c.args.program.now) (told g.P.Answers.declares g.P.Answers.given g.P.Answers.asked c.loop-at.program) (told g.P.Answers.declares g.P.Answers.given g.P.Answers.asked c.hear_next.new.program) c.args.framer.now c.args.session.now c.args.piece.now c.loop-at.at c.loop-at.framer c.loop-at.session c.hear_next.new.framer c.hear_next.new.session c.in_ok-heard.heard c.loop-at.out.items c.hear_next.new.out.items c.in_ok-heard.ensures.further c.loop-at.invariant.heard (rw c.rest_from.ensures at c.in_ok-heard.ensures.hears) c.in_default.not-Goes

pub returns-in_default-clause-few : goal.returns-in_default-clause-few
returns-in_default-clause-few g c =
    let r = is_there (told g.P.Answers.declares g.P.Answers.given g.P.Answers.asked c.args.program.now) (told g.P.Answers.declares g.P.Answers.given g.P.Answers.asked c.loop-at.program) c.args.framer.now c.args.session.now c.args.piece.now c.loop-at.at c.loop-at.framer c.loop-at.session c.loop-at.out.items c.requires.stands c.loop-at.invariant.heard in
    let rest = ap (λ (l : List ℕ). length l) c.rest_from.ensures ∙ length-drop c.loop-at.at c.args.piece.now in
    omega (arith, rest, r.place, r.inside, c.in_ok-heard.ensures.left, c.loop-at.invariant.reach)

pub returns-in_default-clause-further : goal.returns-in_default-clause-further
returns-in_default-clause-further g c = still_further (told g.P.Answers.declares g.P.Answers.given g.P.Answers.asked c.args.program.now) (told g.P.Answers.declares g.P.Answers.given g.P.Answers.asked c.loop-at.program) (told g.P.Answers.declares g.P.Answers.given g.P.Answers.asked c.hear_next.new.program) c.loop-at.invariant.further c.in_ok-heard.ensures.further

pub returns-clause-hears : goal.returns-clause-hears
returns-clause-hears g c =
    some_all (told g.P.Answers.declares g.P.Answers.given g.P.Answers.asked c.args.program.now) (told g.P.Answers.declares g.P.Answers.given g.P.Answers.asked c.loop-at.program) c.args.framer.now c.args.session.now c.args.piece.now c.loop-at.at c.loop-at.framer c.loop-at.session c.loop-at.out.items c.loop-at.invariant.heard (omega (arith, c.loop-at-test.false))

pub returns-clause-few : goal.returns-clause-few
returns-clause-few g c =
    let r = is_there (told g.P.Answers.declares g.P.Answers.given g.P.Answers.asked c.args.program.now) (told g.P.Answers.declares g.P.Answers.given g.P.Answers.asked c.loop-at.program) c.args.framer.now c.args.session.now c.args.piece.now c.loop-at.at c.loop-at.framer c.loop-at.session c.loop-at.out.items c.requires.stands c.loop-at.invariant.heard in
    omega (arith, r.place, r.inside, c.loop-at.invariant.reach)

pub returns-in_err-heard-clause-hears : goal.returns-in_err-heard-clause-hears
returns-in_err-heard-clause-hears g c =
    err_is (λ (r : Result SpeechStop Broken). HearsPiece (told g.P.Answers.declares g.P.Answers.given g.P.Answers.asked c.args.program.now) (told g.P.Answers.declares g.P.Answers.given g.P.Answers.asked c.hear_next.new.program) c.args.framer.now c.args.session.now c.args.piece.now c.hear_next.new.framer c.hear_next.new.session c.hear_next.new.out.items r) c.from_residual.result c.in_err-heard.field-0.0 c.from_residual.ensures.1
    (some_breaks (told g.P.Answers.declares g.P.Answers.given g.P.Answers.asked c.args.program.now) (told g.P.Answers.declares g.P.Answers.given g.P.Answers.asked c.loop-at.program) (told g.P.Answers.declares g.P.Answers.given g.P.Answers.asked c.hear_next.new.program) c.args.framer.now c.args.session.now c.args.piece.now c.loop-at.at c.loop-at.framer c.loop-at.session c.hear_next.new.framer c.hear_next.new.session c.loop-at.out.items c.hear_next.new.out.items c.in_err-heard.field-0.0 c.in_err-heard.ensures.further c.loop-at.invariant.heard (rw c.rest_from.ensures at c.in_err-heard.ensures.broken) c.in_err-heard.ensures.err.0 c.in_err-heard.ensures.err.1)

pub returns-in_err-heard-clause-few : goal.returns-in_err-heard-clause-few
returns-in_err-heard-clause-few g c =
    let r = is_there (told g.P.Answers.declares g.P.Answers.given g.P.Answers.asked c.args.program.now) (told g.P.Answers.declares g.P.Answers.given g.P.Answers.asked c.loop-at.program) c.args.framer.now c.args.session.now c.args.piece.now c.loop-at.at c.loop-at.framer c.loop-at.session c.loop-at.out.items c.requires.stands c.loop-at.invariant.heard in
    let rest = ap (λ (l : List ℕ). length l) c.rest_from.ensures ∙ length-drop c.loop-at.at c.args.piece.now in
    omega (arith, rest, r.place, r.inside, c.in_err-heard.ensures.left, c.loop-at.invariant.reach)

pub returns-in_err-heard-clause-further : goal.returns-in_err-heard-clause-further
returns-in_err-heard-clause-further g c = still_further (told g.P.Answers.declares g.P.Answers.given g.P.Answers.asked c.args.program.now) (told g.P.Answers.declares g.P.Answers.given g.P.Answers.asked c.loop-at.program) (told g.P.Answers.declares g.P.Answers.given g.P.Answers.asked c.hear_next.new.program) c.loop-at.invariant.further c.in_err-heard.ensures.further

pub returns-in_err-heard-clause-full : goal.returns-in_err-heard-clause-full
returns-in_err-heard-clause-full g c =
    err_is (λ (r : Result SpeechStop Broken). IfErr r (λ why. why ≡ Full → g.P.Answers.is_full c.hear_next.new.program ≡ true)) c.from_residual.result c.in_err-heard.field-0.0 c.from_residual.ensures.1 c.in_err-heard.ensures.full
