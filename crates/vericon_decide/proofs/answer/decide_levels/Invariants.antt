use Rattle.vericon_decide.specs.Levels.{IsKept}
use Rattle.vericon_decide.proofs.answer.decide_levels.Given as goal

abbrev pub invariant-loop-level : goal.invariant-loop-level
invariant-loop-level l = IsKept l.program l.size l.level l.proofs.items
