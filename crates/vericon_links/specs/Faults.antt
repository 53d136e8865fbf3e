-- When a count of faults rises.
use Rattle.std.specs.Prelude.{◌≡◌, ℕ, Result, Ok, Err}
use Rattle.vericon_edge.specs.declared.fault.Failed.{Failed}
use Rattle.vericon_edge.specs.Counts.{Rose}

-- the count rose where the call failed, and is as before where it didn't
abbrev pub CountsFault : {T : Type 0} → ℕ → ℕ → Result T Failed → Type 0
CountsFault before now (Ok answer) = now ≡ before
CountsFault before now (Err fault) = Rose before now
