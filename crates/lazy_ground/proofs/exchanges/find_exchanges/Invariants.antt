use Rattle.std.proofs.Common.{◌≡◌}
use Rattle.std.specs.Prelude.{List, drop, take}
use Rattle.clause_log.specs.Literals.{Literal, truths}
use Rattle.decision_laws.specs.Clauses.{replace_from}
use Rattle.fol_forms.specs.Counts.{count_of}
use Rattle.ground_inst.specs.Equality.{exchanges}
use Rattle.ground_inst.specs.Facts.{num_of, vocabulary_of}
use Rattle.lazy_ground.specs.Found.{Finds}
use Rattle.lazy_ground.proofs.exchanges.find_exchanges.Given as goal

abbrev pub invariant-columns : goal.invariant-columns
invariant-columns l = ((new : List (List Literal)) → Finds (truths l.trues) (replace_from (num_of l.constants.facts.now) (count_of l.constants.facts.now.counts) (vocabulary_of l.constants.parts.now l.constants.facts.now) l.relation (take l.at l.places.items) (drop l.at l.columns) (drop l.at l.places.items)) l.rows new → Finds (truths l.trues) (exchanges l.constants.parts.now l.constants.facts.now l.relation l.columns l.fn.places.items) l.fn.rows new) × (l.places.items ≡ l.fn.places.items)
