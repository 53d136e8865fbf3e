use Rattle.std.proofs.Common.{◌≡◌, ◌++◌}
use Rattle.std.specs.Prelude.{drop, take}
use Rattle.decision_laws.specs.Clauses.{replace_from}
use Rattle.fol_forms.specs.Counts.{count_of}
use Rattle.ground_inst.specs.Equality.{exchanges}
use Rattle.ground_inst.specs.Facts.{num_of, vocabulary_of}
use Rattle.ground_inst.proofs.exchange.write_exchanges.Given as goal

abbrev pub invariant-columns : goal.invariant-columns
invariant-columns l =
    (l.rows ++ replace_from (num_of l.constants.facts.now) (count_of l.constants.facts.now.counts) (vocabulary_of l.constants.parts.now l.constants.facts.now) l.relation (take l.at l.places.items) (drop l.at l.columns) (drop l.at l.places.items)
    ≡ l.fn.rows ++ exchanges l.constants.parts.now l.constants.facts.now l.relation l.columns l.fn.places.items)
    × (l.places.items ≡ l.fn.places.items)
