-- What is written at the end of a vector.
use Rattle.std.specs.Prelude.{ℕ, ◌≡◌, ◌+◌, ◌≤◌, List, vec_len, vec_capacity}
use Rattle.std.specs.Global.{Vec}
use Rattle.of10_wire.specs.Layout.{Slot, width, appended, Fit}

-- These slots were written at the end, each pad as zeros.
pub record Writes (old new : Vec ℕ) (slots : List Slot) : Type 0 where
  pub items : new.items ≡ appended old.items slots
  pub len : vec_len new ≡ vec_len old + width slots
  pub capacity : vec_capacity old ≤ vec_capacity new
  pub fits : Fit slots
