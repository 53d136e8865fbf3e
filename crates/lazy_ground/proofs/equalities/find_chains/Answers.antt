use Rattle.std.proofs.Common.{◌≡◌, arith, subst}
use Rattle.std.specs.Prelude.{flat_map}
use Rattle.clause_log.specs.Literals.{truths}
use Rattle.fol_forms.specs.Counts.{count_of}
use Rattle.decision_laws.specs.Vocabulary.{places_from}
use Rattle.ground_inst.specs.Facts.{num_of, vocabulary_of}
use Rattle.lazy_ground.specs.Found.{Finds}
use Rattle.lazy_ground.proofs.FindLaws.{finds_next, finds_none}
use Rattle.ground_inst.specs.Equality.{chain_at}
use Rattle.lazy_ground.proofs.equalities.find_chains.Goals as goal

pub constants-init : goal.constants-init
constants-init c = finds_none (truths c.args.trues.now) c.args.rows.now

pub constants-preserved : goal.constants-preserved
constants-preserved c =
    finds_next (truths c.args.trues.now) (λ a. flat_map (λ b. flat_map (λ d. chain_at (num_of c.args.constants.now.facts.now) (vocabulary_of c.args.constants.now.parts.now c.args.constants.now.facts.now) c.args.sort a b d) (places_from 0 (count_of c.args.constants.now.facts.now.counts c.args.sort))) (places_from 0 (count_of c.args.constants.now.facts.now.counts c.args.sort)))
    c.args.rows.now c.constants.rows c.find_chains_from.new.rows c.constants.a c.constants.invariant c.in_ok-find_chains_from.ensures

pub returns : goal.returns
returns c =
    let last : c.constants.a ≡ (count_of c.args.constants.now.facts.now.counts c.args.sort) = omega (arith, c.constants-test.false, c.constants.auto.a-end, c.count-count.ensures) in
    subst (λ k. Finds (truths c.args.trues.now) (flat_map (λ a. flat_map (λ b. flat_map (λ d. chain_at (num_of c.args.constants.now.facts.now) (vocabulary_of c.args.constants.now.parts.now c.args.constants.now.facts.now) c.args.sort a b d) (places_from 0 (count_of c.args.constants.now.facts.now.counts c.args.sort))) (places_from 0 (count_of c.args.constants.now.facts.now.counts c.args.sort))) (places_from 0 k)) c.args.rows.now c.constants.rows) last c.constants.invariant
