use Rattle.std.proofs.Common.{◌≤◌}
use Rattle.vericon_decide.specs.Levels.{AreProvenByTo}
use Rattle.vericon_decide.proofs.levels.prove.Given as goal

abbrev pub invariant-loop-index : goal.invariant-loop-index
invariant-loop-index l = (l.first ≤ l.index) × (l.index ≤ l.end) × AreProvenByTo l.program l.size l.level l.index l.proofs.items
