use Rattle.std.proofs.Common.{◌≡◌, length}
use Rattle.std.specs.Ordering.{nat_cmp}
use Rattle.net_structs.specs.Networks.{in_order, put_in_order}
use Rattle.net_structs.proofs.network.ordered.Given as goal

abbrev pub invariant-elements : goal.invariant-elements
invariant-elements l = put_in_order nat_cmp l.set.keys l.rest ≡ in_order nat_cmp l.elements

abbrev pub decreases-elements : goal.decreases-elements
decreases-elements l = length l.rest
