use Rattle.std.proofs.Common.{refl, ◌∙◌}
use Rattle.lazy_ground.proofs.FindLaws.{goes_next}
use Rattle.lazy_ground.proofs.TupleLaws.{column_split}
use Rattle.lazy_ground.proofs.exchanges.find_exchanges.Goals as goal

pub columns-preserved : goal.columns-preserved
columns-preserved c = (
  goes_next _ _ _ _ _ _ _ _ c.columns.invariant.0
      (column_split c.args.constants.now.parts.now c.args.constants.now.facts.now c.args.relation c.args.columns.now c.columns.at _ c.columns.places.items c.find_exchanges_at.new.places.items
      c.columns-test.true c.in_ok-find_exchanges_at.ensures.within refl c.in_ok-find_exchanges_at.ensures.places) c.in_ok-find_exchanges_at.ensures.rows,
  c.in_ok-find_exchanges_at.ensures.places ∙ c.columns.invariant.1,
)
