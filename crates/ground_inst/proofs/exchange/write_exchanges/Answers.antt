use Rattle.std.proofs.Common.{refl, ◌∙◌}
use Rattle.ground_inst.proofs.Turns.{next_column}
use Rattle.ground_inst.proofs.exchange.write_exchanges.Goals as goal

pub columns-preserved : goal.columns-preserved
columns-preserved c = (
  next_column c.args.constants.now.parts.now c.args.constants.now.facts.now c.args.relation c.args.columns.now c.columns.rows c.write_exchanges_at.new.rows _ c.columns.at _ c.columns.places.items c.write_exchanges_at.new.places.items
      c.columns-test.true c.in_ok-write_exchanges_at.ensures.within refl c.columns.invariant.0 c.in_ok-write_exchanges_at.ensures.rows c.in_ok-write_exchanges_at.ensures.places,
  c.in_ok-write_exchanges_at.ensures.places ∙ c.columns.invariant.1,
)
