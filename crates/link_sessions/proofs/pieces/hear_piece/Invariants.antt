use Rattle.std.proofs.Common.{length, ◌-◌, ◌≡◌, ◌*◌, ◌+◌, ◌≤◌}
use Rattle.of10_speech.specs.Speeches.{told, Further}
use Rattle.link_sessions.specs.Pieces.{HearsSome}
use Rattle.link_sessions.proofs.pieces.hear_piece.Given as goal

abbrev pub invariant-loop-at : goal.invariant-loop-at
invariant-loop-at g l = record {
  heard : HearsSome (told g.P.Answers.declares g.P.Answers.given g.P.Answers.asked l.fn.program) (told g.P.Answers.declares g.P.Answers.given g.P.Answers.asked l.program) l.fn.framer l.fn.session l.piece l.at l.framer l.session l.out.items;
  within : l.at ≤ length l.piece;
  further : Further (told g.P.Answers.declares g.P.Answers.given g.P.Answers.asked l.fn.program) (told g.P.Answers.declares g.P.Answers.given g.P.Answers.asked l.program);
  source : g.P.Answers.source l.program ≡ g.P.Answers.source l.fn.program;
  reach : 16 * g.P.Answers.left l.fn.program + l.fn.framer.start ≤ 16 * g.P.Answers.left l.program + l.framer.start;
}

abbrev pub decreases-loop-at : goal.decreases-loop-at
decreases-loop-at g l = length l.piece - l.at
