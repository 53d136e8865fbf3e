use Rattle.std.proofs.Common.{◌≡◌, ◌==◌, ◌||◌, ℕ, false, length}
use Rattle.std.specs.Prelude.{slice_index_or}
use Rattle.std.specs.List.{list_any}
use Rattle.ground_inst.proofs.constants.marks_at.Given as goal

abbrev pub invariant-numerals : goal.invariant-numerals
invariant-numerals l = (a : ℕ) → (slice_index_or l.marks.items a false || list_any (λ p. p.place == a) l.rest) ≡ list_any (λ p. p.place == a) l.fn.numerals

abbrev pub decreases-numerals : goal.decreases-numerals
decreases-numerals l = length l.rest
