use Rattle.std.proofs.Common.{◌≡◌, ◌++◌}
use Rattle.std.specs.Prelude.{flat_map}
use Rattle.decision_laws.specs.Vocabulary.{places_from}
use Rattle.fol_forms.specs.Counts.{count_of}
use Rattle.ground_inst.specs.Equality.{chain_at}
use Rattle.ground_inst.specs.Facts.{num_of, vocabulary_of}
use Rattle.ground_inst.proofs.equality.write_chains.Given as goal

abbrev pub invariant-constants : goal.invariant-constants
invariant-constants l = l.rows ≡ l.fn.rows ++ flat_map (λ a. flat_map (λ b. flat_map (λ c. chain_at (num_of l.constants.facts.now) (vocabulary_of l.constants.parts.now l.constants.facts.now) l.sort a b c) (places_from 0 (count_of l.constants.facts.now.counts l.sort))) (places_from 0 (count_of l.constants.facts.now.counts l.sort))) (places_from 0 l.a)
