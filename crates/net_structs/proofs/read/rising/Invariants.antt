use Rattle.std.proofs.Common.{◌≡◌, length}
use Rattle.std.specs.Ordering.{nat_cmp}
use Rattle.std.specs.BTreeSet.{contains}
use Rattle.net_structs.specs.Networks.{in_order, put_in_order}
use Rattle.net_structs.specs.Refusals.{first_repeated, repeated_from}
use Rattle.net_structs.proofs.read.rising.Given as goal

abbrev pub invariant-elements : goal.invariant-elements
invariant-elements l =
    (repeated_from (contains nat_cmp l.set) l.rest ≡ first_repeated l.elements) × (put_in_order nat_cmp l.set.keys l.rest ≡ in_order nat_cmp l.elements)

abbrev pub decreases-elements : goal.decreases-elements
decreases-elements l = length l.rest
