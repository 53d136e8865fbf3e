use Rattle.std.proofs.Common.{[], ◌∷◌, ◌∙◌, ap, sym}
use Rattle.clause_log.specs.Literals.{truths}
use Rattle.fol_forms.specs.Counts.{count_of}
use Rattle.decision_laws.specs.Clauses.{is_chain, no, yes}
use Rattle.decision_laws.specs.Copies.{Equation}
use Rattle.decision_laws.specs.Vocabulary.{places_from}
use Rattle.ground_inst.specs.Equality.{chain_at}
use Rattle.ground_inst.specs.Facts.{num_of, vocabulary_of}
use Rattle.lazy_ground.proofs.FindLaws.{finds_true, first_cond, flat_true}
use Rattle.lazy_ground.proofs.equalities.find_chains_by.Goals as goal

pub returns-then-not-value : goal.returns-then-not-value
returns-then-not-value c =
    finds_true (truths c.args.trues.now) _ c.args.rows.now
    (flat_true (truths c.args.trues.now) (λ d. chain_at (num_of c.args.constants.now.facts.now) (vocabulary_of c.args.constants.now.parts.now c.args.constants.now.facts.now) c.args.sort c.args.a c.args.b d) (places_from 0 (count_of c.args.constants.now.facts.now.counts c.args.sort)) (λ d.
    first_cond (truths c.args.trues.now) (is_chain (vocabulary_of c.args.constants.now.parts.now c.args.constants.now.facts.now) c.args.sort c.args.a c.args.b d) (num_of c.args.constants.now.facts.now (Equation c.args.sort c.args.a c.args.b))
    (no (num_of c.args.constants.now.facts.now (Equation c.args.sort c.args.b d)) ∷ yes (num_of c.args.constants.now.facts.now (Equation c.args.sort c.args.a d)) ∷ [])
    (ap (truths c.args.trues.now) (sym c.in_ok-atom.ensures) ∙ sym c.value.ensures ∙ c.if-not-value.true)))
