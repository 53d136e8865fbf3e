use Rattle.std.proofs.Common.{◌≡◌, ◌+◌, ◌*◌, ◌≤◌, length}
use Rattle.of10_speech.specs.Speeches.{told}
use Rattle.of10_speech.specs.Hearings.{Following}
use Rattle.of10_session_tests.proofs.bytewise.speak_bytewise.Given as goal

abbrev pub invariant-loop-byte : goal.invariant-loop-byte
invariant-loop-byte g l = record {
  follows : Following (told g.P.Answers.declares g.P.Answers.given g.P.Answers.asked l.program) 1 l.taken.items (length l.taken.items) l.framer l.session l.fn.out.items l.out.items;
  come : length l.taken.items ≡ l.byte-index;
  reach : length l.bytes ≤ 16 * g.P.Answers.left l.program + l.framer.start;
}
