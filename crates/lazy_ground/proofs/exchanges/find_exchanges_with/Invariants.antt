use Rattle.std.proofs.Common.{◌≡◌}
use Rattle.std.specs.Prelude.{flat_map, slice_index_or}
use Rattle.clause_log.specs.Literals.{truths}
use Rattle.decision_laws.specs.Vocabulary.{places_from}
use Rattle.ground_inst.specs.Equality.{exchange_at}
use Rattle.lazy_ground.specs.Found.{Finds}
use Rattle.lazy_ground.proofs.exchanges.find_exchanges_with.Given as goal

abbrev pub invariant-constants : goal.invariant-constants
invariant-constants l = (Finds (truths l.trues) (flat_map (λ b. exchange_at l.constants.parts.now l.constants.facts.now l.relation l.sort l.fn.places.items l.whole l.at (slice_index_or l.fn.places.items l.at 0) b) (places_from 0 l.b)) l.fn.rows l.rows) × (l.places.items ≡ l.fn.places.items)
