use Rattle.std.proofs.Common.{sym, subst, ap, arith, ℕ, ◌+◌, List, length, []}
use Rattle.of10_speech.specs.Speeches.{told}
use Rattle.of10_speech.specs.Hearings.{Following}
use Rattle.of10_speech.proofs.Following.{follows_nothing}
use Rattle.of10_session_tests.proofs.OneByOne.{one_byte, one_longer}
use Rattle.of10_session_tests.proofs.bytewise.speak_bytewise.Goals as goal

pub loop-byte-init : goal.loop-byte-init
loop-byte-init g c =
    let t = told g.P.Answers.declares g.P.Answers.given g.P.Answers.asked c.args.program.now in
    record {
      follows = subst (λ (l : List ℕ). Following t 1 l (length l) c.in-Ok.framer c.in-Ok.session c.args.out.now.items c.begin.new.out.items) (sym {A = List ℕ} c.new-taken.ensures.items)
          (follows_nothing t 1 [] c.in-Ok.framer c.in-Ok.session c.args.out.now.items c.begin.new.out.items c.requires.given c.requires.asked c.in-Ok.ensures.framer c.in-Ok.ensures.session c.in-Ok.ensures.bytes);
      come = ap (λ (l : List ℕ). length l) c.new-taken.ensures.items;
      reach = omega (arith, c.requires.left);
    }

pub loop-byte-preserved : goal.loop-byte-preserved
loop-byte-preserved g c =
    let t = told g.P.Answers.declares g.P.Answers.given g.P.Answers.asked c.loop-byte.program in
    let u = told g.P.Answers.declares g.P.Answers.given g.P.Answers.asked c.hear_next.new.program in
    record {
      follows = subst (λ (l : List ℕ). Following u 1 l (length l) c.hear_next.new.framer c.hear_next.new.session c.args.out.now.items c.hear_next.new.out.items) (sym {A = List ℕ} c.in-Ok-push.ensures.items)
          (one_byte t u 1 c.loop-byte.taken.items _ c.loop-byte.framer c.loop-byte.session c.hear_next.new.framer c.hear_next.new.session c.in_ok-heard.heard c.args.out.now.items c.loop-byte.out.items c.hear_next.new.out.items
          c.in_ok-heard.ensures.further c.loop-byte.invariant.follows c.in_ok-heard.ensures.hears c.in-Goes.is);
      come = omega (arith, one_longer _ c.loop-byte.taken.items c.push.new.self.items c.in-Ok-push.ensures.items, c.loop-byte.invariant.come);
      reach = omega (arith, c.in_ok-heard.ensures.going c.in-Goes.is, c.loop-byte.invariant.reach);
    }

pub hear_next-requires-clause-left : goal.hear_next-requires-clause-left
hear_next-requires-clause-left g c =
    omega (arith, c.loop-byte.invariant.follows.taken, c.loop-byte.invariant.come, c.loop-byte.invariant.reach, c.loop-byte-test.true)
