use Rattle.std.specs.Prelude.{List, flat_map, length}
use Rattle.clause_log.specs.Literals.{Literal, truths}
use Rattle.decision_laws.specs.Clauses.{replace_clauses}
use Rattle.ground_inst.specs.Facts.{num_of, vocabulary_of}
use Rattle.fol_forms.specs.Counts.{count_of}
use Rattle.lazy_ground.specs.Found.{Finds}
use Rattle.lazy_ground.proofs.equalities.find_relations.Given as goal

abbrev pub invariant-relations : goal.invariant-relations
invariant-relations l = (new : List (List Literal)) → Finds (truths l.trues) (flat_map (λ u. replace_clauses (num_of l.constants.facts.now) (count_of l.constants.facts.now.counts) (vocabulary_of l.constants.parts.now l.constants.facts.now) u.relation) l.rest) l.rows new → Finds (truths l.trues) (flat_map (λ u. replace_clauses (num_of l.constants.facts.now) (count_of l.constants.facts.now.counts) (vocabulary_of l.constants.parts.now l.constants.facts.now) u.relation) l.constants.facts.now.relations) l.fn.rows new

abbrev pub decreases-relations : goal.decreases-relations
decreases-relations l = length l.rest
