use Rattle.std.proofs.Common.{◌≡◌, ◌++◌, filter, length}
use Rattle.clause_log.specs.Literals.{truths}
use Rattle.lazy_ground.proofs.naming.atoms_true.Given as goal

abbrev pub invariant-atoms : goal.invariant-atoms
invariant-atoms l = l.atoms.items ++ filter (truths l.named) l.rest ≡ filter (truths l.named) l.valuation

abbrev pub decreases-atoms : goal.decreases-atoms
decreases-atoms l = length l.rest
