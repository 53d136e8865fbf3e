use Rattle.std.proofs.Common.{◌≡◌, length}
use Rattle.clause_log.specs.Literals.{has_atom}
use Rattle.log_text.proofs.distinct.has_atom.Given as goal

abbrev pub invariant-literals : goal.invariant-literals
invariant-literals l = has_atom l.atom l.rest ≡ has_atom l.atom l.literals

abbrev pub decreases-literals : goal.decreases-literals
decreases-literals l = length l.rest
