use Rattle.std.proofs.Common.{◌<◌}
use Rattle.vericon_decide.specs.Levels.{NoneIsBrokenTo}
use Rattle.vericon_decide.proofs.answer.decide_rest.Given as goal

abbrev pub invariant-loop-later : goal.invariant-loop-later
invariant-loop-later l = (l.index < l.later) × NoneIsBrokenTo l.program l.size l.most l.later
