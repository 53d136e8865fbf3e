-- What is said of facts.
use Rattle.std.specs.Prelude.{Bool}
use Rattle.clause_log.specs.Literals.{truths}
use Rattle.decision_laws.specs.Copies.{Fact}
use Rattle.ground_inst.specs.Facts.{num_of}
use Rattle.copy_truth.specs.declared.reading.Reading.{Reading}

-- what is said of a fact
unfoldable pub said_by : Reading → Fact → Bool
said_by r fact = truths r.trues.now (num_of r.names.facts.now fact)
