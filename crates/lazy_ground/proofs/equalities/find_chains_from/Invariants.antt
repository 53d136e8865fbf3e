use Rattle.std.specs.Prelude.{flat_map}
use Rattle.clause_log.specs.Literals.{truths}
use Rattle.decision_laws.specs.Vocabulary.{places_from}
use Rattle.ground_inst.specs.Facts.{num_of, vocabulary_of}
use Rattle.fol_forms.specs.Counts.{count_of}
use Rattle.lazy_ground.specs.Found.{Finds}
use Rattle.ground_inst.specs.Equality.{chain_at}
use Rattle.lazy_ground.proofs.equalities.find_chains_from.Given as goal

abbrev pub invariant-constants : goal.invariant-constants
invariant-constants l = Finds (truths l.trues) (flat_map (λ b. flat_map (λ c. chain_at (num_of l.constants.facts.now) (vocabulary_of l.constants.parts.now l.constants.facts.now) l.sort l.a b c) (places_from 0 (count_of l.constants.facts.now.counts l.sort))) (places_from 0 l.b)) l.fn.rows l.rows
