use Rattle.std.proofs.Common.{◌≡◌, ◌++◌, length}
use Rattle.decision_laws.specs.Numbers.{tuple_of}
use Rattle.fol_forms.specs.Counts.{count_of}
use Rattle.lazy_ground.proofs.exchanges.read_places.Given as goal

abbrev pub invariant-sorts : goal.invariant-sorts
invariant-sorts l = l.places.items ++ tuple_of (count_of l.counts) l.rest l.left ≡ tuple_of (count_of l.counts) l.sorts l.number

abbrev pub decreases-sorts : goal.decreases-sorts
decreases-sorts l = length l.rest
