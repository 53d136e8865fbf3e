use Rattle.std.proofs.Common.{◌≡◌, ◌++◌, length}
use Rattle.lazy_ground.specs.Completed.{atoms_in}
use Rattle.lazy_ground.proofs.naming.push_atoms.Given as goal

abbrev pub invariant-literals : goal.invariant-literals
invariant-literals l = l.atoms.items ++ atoms_in l.rest ≡ l.fn.atoms.items ++ atoms_in l.literals

abbrev pub decreases-literals : goal.decreases-literals
decreases-literals l = length l.rest
