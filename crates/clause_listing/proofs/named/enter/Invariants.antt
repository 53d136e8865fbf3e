use Rattle.std.proofs.Common.{◌≡◌, ℕ, ◌||◌, length}
use Rattle.std.specs.Ordering.{nat_cmp}
use Rattle.std.specs.BTreeSet.{contains}
use Rattle.clause_log.specs.Literals.{has_atom}
use Rattle.clause_listing.proofs.named.enter.Given as goal

abbrev pub invariant-literals : goal.invariant-literals
invariant-literals l = (a : ℕ) → (contains nat_cmp l.atoms a || has_atom a l.rest) ≡ (contains nat_cmp l.fn.atoms a || has_atom a l.literals)

abbrev pub decreases-literals : goal.decreases-literals
decreases-literals l = length l.rest
