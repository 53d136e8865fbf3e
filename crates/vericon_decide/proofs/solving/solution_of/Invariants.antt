use Rattle.decision_laws.specs.Laws.{clauses}
use Rattle.decision_laws.specs.Sublists.{left_of}
use Rattle.lazy_ground.specs.Lazy.{IsLazy}
use Rattle.vericon_decide.proofs.solving.solution_of.Given as goal

abbrev pub invariant-rounds : goal.invariant-rounds
invariant-rounds l = IsLazy l.program l.sentence l.lazy

abbrev pub decreases-rounds : goal.decreases-rounds
decreases-rounds l = left_of (clauses l.program l.sentence) l.lazy.made.clauses.clauses
