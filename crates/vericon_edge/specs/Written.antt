-- What a sink tells of the bytes written.
use Rattle.std.specs.Prelude.{◌≡◌, ℕ, ◌<◌, ◌≤◌, List, ◌++◌, length, take, Option, Some, None, Result, Ok, Err}
use Rattle.vericon_edge.specs.declared.fault.Failed.{Failed}
use Rattle.vericon_edge.specs.Counts.{Rose}

-- the bytes written, where they are told, have grown by these
abbrev pub Grown : Option (List ℕ) → Option (List ℕ) → List ℕ → Type 0
Grown None new bytes = new ≡ None
Grown (Some old) new bytes = new ≡ Some (old ++ bytes)

-- they have grown by a front of these
abbrev pub GrownByFront : Option (List ℕ) → Option (List ℕ) → List ℕ → Type 0
GrownByFront old new bytes = (n : ℕ) × (n ≤ length bytes) × Grown old new (take n bytes)

-- Of a write: the bytes written before and after, the piece, and the count of faults before and after.
abbrev pub WriteAnswers : Option (List ℕ) → Option (List ℕ) → List ℕ → ℕ → ℕ → Result ℕ Failed → Type 0
WriteAnswers old new piece before now (Ok n) = (n ≤ length piece) × (0 < length piece → 0 < n) × Grown old new (take n piece) × (now ≡ before)
WriteAnswers old new piece before now (Err fault) = (new ≡ old) × Rose before now
