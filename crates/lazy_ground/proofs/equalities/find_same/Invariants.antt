use Rattle.std.specs.Prelude.{[], ◌∷◌, flat_map}
use Rattle.clause_log.specs.Literals.{truths}
use Rattle.decision_laws.specs.Clauses.{yes}
use Rattle.decision_laws.specs.Copies.{Equation}
use Rattle.decision_laws.specs.Vocabulary.{places_from}
use Rattle.ground_inst.specs.Facts.{num_of}
use Rattle.lazy_ground.specs.Found.{Finds}
use Rattle.lazy_ground.proofs.equalities.find_same.Given as goal

abbrev pub invariant-constants : goal.invariant-constants
invariant-constants l = Finds (truths l.trues) (flat_map (λ a. (yes (num_of l.constants.facts.now (Equation l.sort a a)) ∷ []) ∷ []) (places_from 0 l.a)) l.fn.rows l.rows
