-- The lines that say why a call has no more to say. Each text is whole lines, each with its end.
use Rattle.std.specs.Prelude.{◌≡◌, ℕ, List, ◌++◌, codes}
use Rattle.std.specs.Fmt.{decimal}
use Rattle.file_loads.specs.declared.outcome.Outcome.{Outcome}
use Rattle.csdn_read.specs.declared.refusal.ProgramWhy.{ProgramWhy}
use Rattle.csdn_read.specs.declared.refusal.ProgramWhy.TheVariants.{TooLong, BadByte, BadName, BadNumber, Unexpected, TooDeep, Duplicate, Unknown, WrongArity, WrongSort, NotAllowed, TooMany}
use Rattle.file_loads.specs.declared.read.FileKind.{FileKind}
use Rattle.file_loads.specs.declared.read.FileKind.TheVariants.{Program, Frames, Logs, Network, Journal}
use Rattle.file_loads.specs.Status.{code_of}

-- the outcome prints this text, with this status
abbrev pub Says : List ℕ → ℕ → Outcome → Type 0
Says text status outcome = (outcome.text.items ≡ text) × (code_of outcome.status ≡ status)

-- this text and this status are the outcome's
abbrev pub IsSaid : Outcome → List ℕ → ℕ → Type 0
IsSaid outcome text status = (text ≡ outcome.text.items) × (status ≡ code_of outcome.status)

abbrev pub usage_text : List ℕ
usage_text = codes "usage\n"

abbrev pub memory_text : List ℕ
memory_text = codes "memory\n"

abbrev pub missing_text : List ℕ → List ℕ
missing_text name = codes "missing " ++ name ++ codes "\n"

abbrev pub read_fault_text : List ℕ → List ℕ
read_fault_text name = codes "read fault " ++ name ++ codes "\n"

abbrev pub word_of : ProgramWhy → List ℕ
word_of TooLong = codes "TooLong"
word_of BadByte = codes "BadByte"
word_of BadName = codes "BadName"
word_of BadNumber = codes "BadNumber"
word_of Unexpected = codes "Unexpected"
word_of TooDeep = codes "TooDeep"
word_of Duplicate = codes "Duplicate"
word_of Unknown = codes "Unknown"
word_of WrongArity = codes "WrongArity"
word_of WrongSort = codes "WrongSort"
word_of NotAllowed = codes "NotAllowed"
word_of TooMany = codes "TooMany"

-- a program is refused at a place
abbrev pub refused_text : List ℕ → ℕ → ProgramWhy → List ℕ
refused_text name at why = name ++ codes " refused at " ++ decimal at ++ codes ": " ++ word_of why ++ codes "\n"

-- a file is longer than one of its kind may be
abbrev pub too_long_text : FileKind → List ℕ → List ℕ
too_long_text Program name = refused_text name 65536 TooLong
too_long_text Frames name = name ++ codes " refused: TooLong\n"
too_long_text Logs name = name ++ codes " refused: TooLong\n"
too_long_text Network name = name ++ codes " refused: TooLong\n"
too_long_text Journal name = name ++ codes " refused: TooLong\n"

-- a text is refused at a line
abbrev pub refused_line_text : List ℕ → ℕ → List ℕ
refused_line_text name line = name ++ codes " refused line " ++ decimal line ++ codes "\n"
