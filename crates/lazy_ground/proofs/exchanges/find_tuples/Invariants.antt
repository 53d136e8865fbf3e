use Rattle.std.specs.Prelude.{List, flat_map, length}
use Rattle.clause_log.specs.Literals.{Literal, truths}
use Rattle.lazy_ground.specs.Found.{Finds}
use Rattle.lazy_ground.specs.Tuples.{tuple_clauses}
use Rattle.lazy_ground.proofs.exchanges.find_tuples.Given as goal

abbrev pub invariant-atoms : goal.invariant-atoms
invariant-atoms l = (new : List (List Literal)) → Finds (truths l.trues) (flat_map (λ t. tuple_clauses l.constants.parts.now l.constants.facts.now l.relation l.used t) l.rest) l.rows new → Finds (truths l.trues) (flat_map (λ t. tuple_clauses l.constants.parts.now l.constants.facts.now l.relation l.used t) l.trues) l.fn.rows new

abbrev pub decreases-atoms : goal.decreases-atoms
decreases-atoms l = length l.rest
