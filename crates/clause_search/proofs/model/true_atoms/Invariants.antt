use Rattle.std.proofs.Common.{◌≡◌, ◌++◌, length}
use Rattle.clause_search.specs.Trails.{positives}
use Rattle.clause_search.proofs.model.true_atoms.Given as goal

abbrev pub invariant-entries : goal.invariant-entries
invariant-entries l = l.atoms.items ++ positives l.rest ≡ positives l.fn.trail

abbrev pub decreases-entries : goal.decreases-entries
decreases-entries l = length l.rest
