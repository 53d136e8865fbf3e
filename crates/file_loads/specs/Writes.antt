-- What a call wrote.
use Rattle.std.specs.Prelude.{◌≡◌, ℕ, ◌+◌, ◌≤◌, Bool, true, false, List, Option, Some, None}
use Rattle.vericon_edge.specs.Counts.{Rose}
use Rattle.vericon_edge.specs.FileAnswers.{NowHolds}
use Rattle.vericon_edge.specs.Told.{Told, untold}
use Rattle.file_loads.specs.Views.{Change}

-- a write of a file: its name, the bytes, and whether it was done
pub record Write : Type 0 where
  pub name : List ℕ
  pub bytes : List ℕ
  pub is_done : Bool

-- Of a write, by whether it was done: what was told of the name before, what is after, the bytes, and the counts of write faults before and after.
abbrev pub HasWritten : Told → Told → List ℕ → ℕ → ℕ → Bool → Type 0
HasWritten old new bytes before after true = NowHolds old new bytes × (after ≡ before)
HasWritten old new bytes before after false = (new ≡ untold) × Rose before after

-- No file was written.
pub record IsUnwritten (change : Change) : Type 0 where
  pub told : change.after.told ≡ change.before.told
  pub calls : change.after.write_calls ≡ change.before.write_calls
  pub faults : change.after.write_faults ≡ change.before.write_faults

-- This file was written, or the write failed; and no other was.
pub record IsWritten (change : Change) (write : Write) : Type 0 where
  pub written : HasWritten (change.before.told write.name) (change.after.told write.name) write.bytes change.before.write_faults change.after.write_faults write.is_done
  pub others : (name : List ℕ) → (name ≡ write.name → ⊥) → change.after.told name ≡ change.before.told name
  pub calls : change.after.write_calls ≤ change.before.write_calls + 1

-- what the files tell before and after a call, and the counts of writes, allow this write
abbrev pub MayWrite : Change → Option Write → Type 0
MayWrite change None = IsUnwritten change
MayWrite change (Some write) = IsWritten change write
