-- What is made of a sentence.
use Rattle.std.specs.Prelude.{◌≡◌}
use Rattle.csdn_core.specs.declared.program.Parts.{Parts}
use Rattle.csdn_core.specs.declared.syntax.Formula.{Formula}
use Rattle.decision_laws.specs.Laws.{atoms, clauses}
use Rattle.ground_inst.specs.Facts.{AreFactsOf}
use Rattle.ground_inst.specs.declared.sentence.Ground.{Ground}

-- the clauses of the sentence, each in its place, and over its atoms
pub record IsGround (P : Parts) (F : Formula) (g : Ground) : Type 0 where
  pub sentence : g.sentence ≡ F
  pub facts : AreFactsOf P F g.facts
  pub atoms : g.clauses.atoms ≡ atoms P F
  pub clauses : g.clauses.clauses ≡ clauses P F
