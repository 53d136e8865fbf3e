-- What reads answer.
use Rattle.std.specs.Prelude.{ℕ, ◌≤◌, List, [], ◌∷◌, length}
use Rattle.vericon_edge.specs.Counts.{Rose}
use Rattle.vericon_edge.specs.Told.{Told, MayHold, MayBeMissing, MayBeLonger}
use Rattle.file_loads.specs.declared.read.FileKind.{FileKind}
use Rattle.file_loads.specs.declared.read.FileKind.TheVariants.{Program, Frames, Logs, Network, Journal}
use Rattle.file_loads.specs.Views.{Change}

-- What a read answered.
pub data Answer : Type 0 where
  -- all bytes of the file
  held : List ℕ → Answer
  -- that it is missing
  missing : Answer
  -- that it is longer than one of its kind may be
  longer : Answer
  -- that it could not be read
  failed : Answer

-- how many bytes a file of a kind has at most
abbrev pub longest : FileKind → ℕ
longest Program = 65536
longest Frames = 16777216
longest Logs = 268435456
longest Network = 16777216
longest Journal = 536870912

-- what is told of the name, and the counts of read faults around the reading, allow the answer
abbrev pub MayAnswer : Told → ℕ → ℕ → ℕ → Answer → Type 0
MayAnswer told most before after (held bytes) = MayHold told bytes × (length bytes ≤ most)
MayAnswer told most before after missing = MayBeMissing told before after
MayAnswer told most before after longer = MayBeLonger told most
MayAnswer told most before after failed = Rose before after

-- a file that a call reads
pub record File : Type 0 where
  pub kind : FileKind
  pub name : List ℕ

-- what the files tell before a call, and the counts of read faults around it, allow this answer of the file
abbrev pub FileMayAnswer : Change → File → Answer → Type 0
FileMayAnswer change file answer = MayAnswer (change.before.told file.name) (longest file.kind) change.before.read_faults change.after.read_faults answer

-- .. and allow these answers of the files, in this order; where they end, no file behind was read
abbrev pub MayAnswerAll : Change → List File → List Answer → Type 0
MayAnswerAll change files [] = Unit {0}
MayAnswerAll change [] (answer ∷ answers) = ⊥
MayAnswerAll change (file ∷ files) (answer ∷ answers) = FileMayAnswer change file answer × MayAnswerAll change files answers
