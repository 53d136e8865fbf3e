use Rattle.std.proofs.Common.{◌≡◌, ◌≤◌, length, drop}
use Rattle.fol_forms.specs.Closed.{closed}
use Rattle.fol_forms.proofs.close.closed_by.Given as goal

abbrev pub invariant-binds : goal.invariant-binds
invariant-binds l = (l.left ≤ length l.binds) × (l.closed ≡ closed (drop l.left l.binds) l.fn.formula)

abbrev pub decreases-binds : goal.decreases-binds
decreases-binds l = l.left
