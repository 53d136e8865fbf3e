-- What files tell of a name.
use Rattle.std.specs.Prelude.{◌≡◌, ℕ, ◌<◌, List, length}
use Rattle.vericon_edge.specs.Counts.{Rose}

pub data Told : Type 0 where
  -- nothing
  untold : Told
  -- that it isn't held
  absent : Told
  -- all bytes that it holds
  holds : List ℕ → Told

-- these may be the bytes that the name holds
abbrev pub MayHold : Told → List ℕ → Type 0
MayHold untold bytes = Unit {0}
MayHold absent bytes = ⊥
MayHold (holds held) bytes = bytes ≡ held

-- the name may be missing: it isn't held; or nothing is told of it, and a read failed
abbrev pub MayBeMissing : Told → ℕ → ℕ → Type 0
MayBeMissing untold before now = Rose before now
MayBeMissing absent before now = Unit {0}
MayBeMissing (holds held) before now = ⊥

-- the name may hold more than so many bytes
abbrev pub MayBeLonger : Told → ℕ → Type 0
MayBeLonger untold most = Unit {0}
MayBeLonger absent most = ⊥
MayBeLonger (holds held) most = most < length held
