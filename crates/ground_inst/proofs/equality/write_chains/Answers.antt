use Rattle.std.specs.Prelude.{flat_map}
use Rattle.decision_laws.specs.Vocabulary.{places_from}
use Rattle.fol_forms.specs.Counts.{count_of}
use Rattle.ground_inst.specs.Equality.{chain_at}
use Rattle.ground_inst.specs.Facts.{num_of, vocabulary_of}
use Rattle.ground_inst.proofs.Turns.{one_more}
use Rattle.ground_inst.proofs.equality.write_chains.Goals as goal

pub constants-preserved : goal.constants-preserved
constants-preserved c =
    one_more (λ a. flat_map (λ b. flat_map (λ d. chain_at (num_of c.args.constants.now.facts.now) (vocabulary_of c.args.constants.now.parts.now c.args.constants.now.facts.now) c.args.sort a b d) (places_from 0 (count_of c.args.constants.now.facts.now.counts c.args.sort))) (places_from 0 (count_of c.args.constants.now.facts.now.counts c.args.sort)))
    c.args.rows.now c.constants.rows c.write_chains_from.new.rows c.constants.a c.constants.invariant c.in_ok-write_chains_from.ensures
