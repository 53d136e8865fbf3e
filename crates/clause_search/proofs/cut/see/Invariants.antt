use Rattle.std.proofs.Common.{◌≡◌, ℕ, length}
use Rattle.clause_search.specs.Cuts.{mark_of, opened}
use Rattle.clause_search.proofs.cut.see.Given as goal

abbrev pub invariant-literals : goal.invariant-literals
invariant-literals l = (a : ℕ) → opened (mark_of l.marks) l.rest a ≡ opened (mark_of l.fn.marks) l.clause a

abbrev pub decreases-literals : goal.decreases-literals
decreases-literals l = length l.rest
