use Rattle.std.proofs.Common.{◌≡◌, ◌++◌}
use Rattle.std.specs.Prelude.{flat_map, slice_index_or}
use Rattle.decision_laws.specs.Vocabulary.{places_from}
use Rattle.ground_inst.specs.Equality.{exchange_at}
use Rattle.ground_inst.proofs.exchange.write_exchanges_with.Given as goal

abbrev pub invariant-constants : goal.invariant-constants
invariant-constants l =
    (l.rows ≡ l.fn.rows ++ flat_map (λ b. exchange_at l.constants.parts.now l.constants.facts.now l.relation l.sort l.fn.places.items l.whole l.at (slice_index_or l.fn.places.items l.at 0) b) (places_from 0 l.b))
    × (l.places.items ≡ l.fn.places.items)
