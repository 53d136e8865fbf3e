use Rattle.std.proofs.Common.{◌≡◌, ◌∙◌, arith, subst}
use Rattle.std.specs.Prelude.{flat_map, slice_index_or}
use Rattle.clause_log.specs.Literals.{truths}
use Rattle.fol_forms.specs.Counts.{count_of}
use Rattle.decision_laws.specs.Vocabulary.{places_from}
use Rattle.ground_inst.specs.Equality.{exchange_at}
use Rattle.lazy_ground.specs.Found.{Finds}
use Rattle.lazy_ground.proofs.FindLaws.{finds_next}
use Rattle.lazy_ground.proofs.exchanges.find_exchanges_with.Goals as goal

pub constants-preserved : goal.constants-preserved
constants-preserved c =
    let turn : Finds (truths c.args.trues.now) (exchange_at c.args.constants.now.parts.now c.args.constants.now.facts.now c.args.relation c.args.sort c.args.places.now.items c.args.whole c.args.at (slice_index_or c.args.places.now.items c.args.at 0) c.constants.b) c.constants.rows c.find_exchange.new.rows =
    subst (λ xs. Finds (truths c.args.trues.now) (exchange_at c.args.constants.now.parts.now c.args.constants.now.facts.now c.args.relation c.args.sort xs c.args.whole c.args.at (slice_index_or xs c.args.at 0) c.constants.b) c.constants.rows c.find_exchange.new.rows)
    c.constants.invariant.1 c.in_ok-find_exchange.ensures.rows in (
      finds_next (truths c.args.trues.now) (λ b. exchange_at c.args.constants.now.parts.now c.args.constants.now.facts.now c.args.relation c.args.sort c.args.places.now.items c.args.whole c.args.at (slice_index_or c.args.places.now.items c.args.at 0) b)
          c.args.rows.now c.constants.rows c.find_exchange.new.rows c.constants.b c.constants.invariant.0 turn,
      c.in_ok-find_exchange.ensures.places ∙ c.constants.invariant.1,
    )

pub returns-clause-rows : goal.returns-clause-rows
returns-clause-rows c =
    let last : c.constants.b ≡ count_of c.args.constants.now.facts.now.counts c.args.sort = omega (arith, c.constants-test.false, c.constants.auto.b-end, c.count-count.ensures) in
    subst (λ k. Finds (truths c.args.trues.now) (flat_map (λ b. exchange_at c.args.constants.now.parts.now c.args.constants.now.facts.now c.args.relation c.args.sort c.args.places.now.items c.args.whole c.args.at (slice_index_or c.args.places.now.items c.args.at 0) b) (places_from 0 k)) c.args.rows.now c.constants.rows) last c.constants.invariant.0
