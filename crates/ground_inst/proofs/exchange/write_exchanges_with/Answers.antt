use Rattle.std.proofs.Common.{subst, ◌++◌, ◌∙◌, ◌≡◌}
use Rattle.std.specs.Prelude.{slice_index_or}
use Rattle.ground_inst.specs.Equality.{exchange_at}
use Rattle.ground_inst.proofs.Turns.{one_more}
use Rattle.ground_inst.proofs.exchange.write_exchanges_with.Goals as goal

pub constants-preserved : goal.constants-preserved
constants-preserved c =
    let turn : c.write_exchange.new.rows ≡ c.constants.rows ++ exchange_at c.args.constants.now.parts.now c.args.constants.now.facts.now c.args.relation c.args.sort c.args.places.now.items c.args.whole c.args.at (slice_index_or c.args.places.now.items c.args.at 0) c.constants.b =
    subst (λ xs. c.write_exchange.new.rows ≡ c.constants.rows ++ exchange_at c.args.constants.now.parts.now c.args.constants.now.facts.now c.args.relation c.args.sort xs c.args.whole c.args.at (slice_index_or xs c.args.at 0) c.constants.b)
    c.constants.invariant.1 c.in_ok-write_exchange.ensures.rows in (
      one_more (λ b. exchange_at c.args.constants.now.parts.now c.args.constants.now.facts.now c.args.relation c.args.sort c.args.places.now.items c.args.whole c.args.at (slice_index_or c.args.places.now.items c.args.at 0) b)
          c.args.rows.now c.constants.rows c.write_exchange.new.rows c.constants.b c.constants.invariant.0 turn,
      c.in_ok-write_exchange.ensures.places ∙ c.constants.invariant.1,
    )
