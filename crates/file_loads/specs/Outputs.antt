-- Outputs of calls that read files, and may write one, by what the reads answered.
use Rattle.std.specs.Prelude.{◌≡◌, ℕ, true, false, List, [], ◌∷◌, Option, Some, None}
use Rattle.file_loads.specs.declared.read.FileKind.{FileKind}
use Rattle.file_loads.specs.Lines.{missing_text, read_fault_text, too_long_text}
use Rattle.file_loads.specs.Answers.{Answer, held, missing, longer, failed}
use Rattle.file_loads.specs.Writes.{Write}

-- what is said of a file that gave no bytes, and the status
abbrev pub IsNone : FileKind → List ℕ → Answer → List ℕ → ℕ → Type 0
IsNone kind name (held bytes) text status = ⊥
IsNone kind name missing text status = (text ≡ missing_text name) × (status ≡ 5)
IsNone kind name longer text status = (text ≡ too_long_text kind name) × (status ≡ 3)
IsNone kind name failed text status = (text ≡ read_fault_text name) × (status ≡ 5)

-- The output of a call that needs a value of a file: the file's bytes are that value, and what follows goes on from it; or they are refused, with this line; or there are none. Where there is no value, no other file is read, and none is written.
pub data With {X : Type 0} (kind : FileKind) (name : List ℕ) (is_value : List ℕ → X → Type 0) (is_refused : List ℕ → List ℕ → Type 0) (next : X → List Answer → Option Write → List ℕ → ℕ → Type 0)
    (answers : List Answer) (write : Option Write) (text : List ℕ) (status : ℕ) : Type 0 where
  was_value : (bytes : List ℕ) (x : X) (rest : List Answer) → answers ≡ held bytes ∷ rest → is_value bytes x → next x rest write text status → With kind name is_value is_refused next answers write text status
  was_refused : (bytes : List ℕ) → answers ≡ held bytes ∷ [] → write ≡ None → is_refused bytes text → status ≡ 3 → With kind name is_value is_refused next answers write text status
  was_none : (answer : Answer) → answers ≡ answer ∷ [] → write ≡ None → IsNone kind name answer text status → With kind name is_value is_refused next answers write text status

-- The output of a call that reads no more, and writes nothing.
pub record Then (output : List ℕ → ℕ → Type 0) (answers : List Answer) (write : Option Write) (text : List ℕ) (status : ℕ) : Type 0 where
  pub no_read : answers ≡ []
  pub no_write : write ≡ None
  pub said : output text status

-- The output of a call that reads no more, and writes these bytes to the file of this name: what follows where that was done; else nothing, with status 8.
pub data Writing (name bytes : List ℕ) (output : List ℕ → ℕ → Type 0) (answers : List Answer) (write : Option Write) (text : List ℕ) (status : ℕ) : Type 0 where
  was_done : answers ≡ [] → write ≡ Some (record { name = name; bytes = bytes; is_done = true }) → output text status → Writing name bytes output answers write text status
  had_failed : answers ≡ [] → write ≡ Some (record { name = name; bytes = bytes; is_done = false }) → text ≡ [] → status ≡ 8 → Writing name bytes output answers write text status
