use Rattle.std.proofs.Common.{◌≡◌, ◌≤◌, ◌+◌, ◌*◌, length, ◌-◌}
use Rattle.of10_speech.specs.Speeches.{told}
use Rattle.of10_speech.specs.Hearings.{Following}
use Rattle.of10_speech.proofs.speaking.speak.Given as goal

abbrev pub invariant-loop-at : goal.invariant-loop-at
invariant-loop-at g l =
    Following (told g.P.Answers.declares g.P.Answers.given g.P.Answers.asked l.program) l.number l.bytes l.at l.framer l.session l.fn.out.items l.out.items
    × (g.P.Answers.declares l.program ≡ g.P.Answers.declares l.fn.program)
    × (g.P.Answers.source l.program ≡ g.P.Answers.source l.fn.program)
    × (length l.bytes ≤ 16 * g.P.Answers.left l.program + l.framer.start)

abbrev pub decreases-loop-at : goal.decreases-loop-at
decreases-loop-at g l = length l.bytes - l.at
