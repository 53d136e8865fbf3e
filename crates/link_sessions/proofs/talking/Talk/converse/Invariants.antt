use Rattle.std.proofs.Common.{◌-◌, ◌≡◌, ◌*◌, ◌+◌, ◌≤◌, false}
use Rattle.of10_speech.specs.Speeches.{told}
use Rattle.link_sessions.specs.Pieces.{Stands}
use Rattle.link_sessions.proofs.talking.Talk.converse.Given as goal

abbrev pub invariant-loop-self : goal.invariant-loop-self
invariant-loop-self g l = record {
  stands : Stands (told g.P.Answers.declares g.P.Answers.given g.P.Answers.asked l.program) l.self.number l.self.framer l.self.session l.self.taken (g.K.Link.taken l.link) (g.K.Link.written l.link);
  number : l.self.number ≡ l.fn.self.number;
  within : l.self.taken ≤ l.most;
  closed : g.K.Link.closed l.link ≡ false;
  read_faults : g.K.Link.read_faults l.link ≡ g.K.Link.read_faults l.fn.link;
  write_faults : g.K.Link.write_faults l.link ≡ g.K.Link.write_faults l.fn.link;
  reach : 16 * g.P.Answers.left l.fn.program + l.fn.self.framer.start ≤ 16 * g.P.Answers.left l.program + l.self.framer.start;
  source : g.P.Answers.source l.program ≡ g.P.Answers.source l.fn.program;
}

abbrev pub decreases-loop-self : goal.decreases-loop-self
decreases-loop-self g l = l.most - l.self.taken
