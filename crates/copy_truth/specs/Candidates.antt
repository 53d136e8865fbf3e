-- Sets of constants of one sort.
use Rattle.std.specs.Prelude.{ℕ, ◌==◌, Bool, not, ◌||◌, nat_lt}
use Rattle.std.specs.Int.{bit_at}
use Rattle.copy_truth.specs.declared.candidates.Candidates.{Candidates}

-- whether the constant at a place is among these
abbrev pub has_place : Candidates → ℕ → Bool
has_place c place = not (nat_lt place 128) || bit_at c.bits place == 1
