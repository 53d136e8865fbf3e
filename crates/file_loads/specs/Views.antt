-- What a call does to the files at most.
use Rattle.std.specs.Prelude.{◌≡◌, ℕ, ◌+◌, ◌≤◌, List, Option, Some, None}
use Rattle.vericon_edge.specs.Told.{Told}

-- what files tell of each name, and their counts: of reads and writes, and of those that failed
pub record View : Type 0 where
  pub told : List ℕ → Told
  pub read_calls : ℕ
  pub write_calls : ℕ
  pub read_faults : ℕ
  pub write_faults : ℕ

-- the files before a call and after it
pub record Change : Type 0 where
  pub before : View
  pub after : View

-- those of a call that found the files `old`, and left them `new`
abbrev pub change_of : {D : Type 0} → (D → List ℕ → Told) → (D → ℕ) → (D → ℕ) → (D → ℕ) → (D → ℕ) → D → D → Change
change_of told read_calls write_calls read_faults write_faults old new =
    record {
      before = record { told = told old; read_calls = read_calls old; write_calls = write_calls old; read_faults = read_faults old; write_faults = write_faults old };
      after = record { told = told new; read_calls = read_calls new; write_calls = write_calls new; read_faults = read_faults new; write_faults = write_faults new };
    }

-- .. in which no fault was counted
abbrev pub without_faults : View → View
without_faults view = record view { read_faults = 0; write_faults = 0 }

abbrev pub calm : Change → Change
calm change = record { before = without_faults change.before; after = without_faults change.after }

-- No file is written, and so many are read at most.
pub record OnlyReads (most : ℕ) (change : Change) : Type 0 where
  pub told : change.after.told ≡ change.before.told
  pub reads : change.after.read_calls ≤ change.before.read_calls + most
  pub read_faults : change.before.read_faults ≤ change.after.read_faults
  pub writes : change.after.write_calls ≡ change.before.write_calls
  pub write_faults : change.after.write_faults ≡ change.before.write_faults

-- how many files those are of which the name is given
abbrev pub files_in : Option (List ℕ) → ℕ
files_in None = 0
files_in (Some name) = 1

-- The file of this name is written once at most, and no other.
pub record Writes (named : Option (List ℕ)) (change : Change) : Type 0 where
  pub others : (name : List ℕ) → (named ≡ Some name → ⊥) → change.after.told name ≡ change.before.told name
  pub later : change.before.write_faults ≤ change.after.write_faults
  pub once : change.after.write_calls ≤ change.before.write_calls + files_in named

-- So many files are read at most, and the file of this name is written once at most, and no other.
pub record Touches (most : ℕ) (named : Option (List ℕ)) (change : Change) : Type 0 where
  pub reads : change.after.read_calls ≤ change.before.read_calls + most
  pub read_faults : change.before.read_faults ≤ change.after.read_faults
  pub writes : Writes named change
