use Rattle.std.proofs.Common.{◌≡◌, ◌-◌, ◌+◌, ℕ, length}
use Rattle.std.specs.Prelude.{slice_index_or}
use Rattle.clause_search.proofs.table.grow.Given as goal

abbrev pub invariant-blanks : goal.invariant-blanks
invariant-blanks g l = (i : ℕ) → slice_index_or l.table.items i l.blank ≡ slice_index_or l.fn.table.items i l.blank

abbrev pub decreases-blanks : goal.decreases-blanks
decreases-blanks g l = l.place + 1 - length l.table.items
