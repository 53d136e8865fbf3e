use Rattle.std.proofs.Common.{◌≡◌, ◌++◌, length, map}
use Rattle.std.specs.Prelude.{flat_map}
use Rattle.decision_laws.specs.Clauses.{replace_clauses}
use Rattle.fol_forms.specs.Counts.{count_of}
use Rattle.ground_inst.specs.Facts.{num_of, vocabulary_of}
use Rattle.ground_inst.proofs.equality.write_relations.Given as goal

abbrev pub invariant-relations : goal.invariant-relations
invariant-relations l =
    l.rows ++ flat_map (λ r. replace_clauses (num_of l.constants.facts.now) (count_of l.constants.facts.now.counts) (vocabulary_of l.constants.parts.now l.constants.facts.now) r) (map (λ u. u.relation) l.rest)
    ≡ l.fn.rows ++ flat_map (λ r. replace_clauses (num_of l.constants.facts.now) (count_of l.constants.facts.now.counts) (vocabulary_of l.constants.parts.now l.constants.facts.now) r) (map (λ u. u.relation) l.constants.facts.now.relations)

abbrev pub decreases-relations : goal.decreases-relations
decreases-relations l = length l.rest
