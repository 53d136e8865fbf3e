-- What the words of a call ask of the commands.
use Rattle.std.specs.Prelude.{◌≡◌, ℕ, List, [], ◌∷◌, slice_index_or, Option, Some, None, codes, min}
use Rattle.command_words.specs.declared.table.Command.{Command}
use Rattle.command_words.specs.declared.table.Command.TheVariants.{Check, Show, Eval, Trace, Conditions, Clauses, Frames, Make, Replay, Run}
use Rattle.command_words.specs.Call.{Call}
use Rattle.command_words.specs.Calls.{number_at, option_number, option_size}
use Rattle.command_words.specs.Options.{value_of}
use Rattle.csdn_conditions.specs.Classes.{usual_size, greatest_size}
use Rattle.file_loads.specs.declared.read.FileKind.{FileKind}
use Rattle.file_loads.specs.declared.read.FileKind.TheVariants as kind
use Rattle.file_loads.specs.Answers.{File}

-- the operand at a place, as the name of a file
abbrev pub file_name : Call → ℕ → List ℕ
file_name call index = slice_index_or call.operands index []

-- .. as a file of a kind
abbrev pub file_of : FileKind → Call → ℕ → File
file_of kind call index = record { kind = kind; name = file_name call index }

-- the files that a call of the command reads, in the order of its words
abbrev pub files_of : Command → Call → List File
files_of Check call = file_of kind.Program call 0 ∷ []
files_of Show call = file_of kind.Program call 0 ∷ []
files_of Eval call = file_of kind.Program call 0 ∷ file_of kind.Network call 1 ∷ []
files_of Trace call = file_of kind.Program call 0 ∷ file_of kind.Network call 1 ∷ file_of kind.Journal call 2 ∷ []
files_of Conditions call = file_of kind.Program call 0 ∷ []
files_of Clauses call = file_of kind.Logs call 0 ∷ []
files_of Frames call = file_of kind.Frames call 0 ∷ []
files_of Make call = []
files_of Replay call = file_of kind.Program call 0 ∷ file_of kind.Network call 1 ∷ file_of kind.Journal call 2 ∷ file_of kind.Frames call 4 ∷ []
files_of Run call = file_of kind.Program call 0 ∷ file_of kind.Network call 1 ∷ []

abbrev pub files_named : Option Call → List File
files_named None = []
files_named (Some call) = files_of call.command call

-- the name of the file that a call of the command writes a log to, where it asks for one
abbrev pub log_name : Command → Call → Option (List ℕ)
log_name Check call = value_of (codes "--log") call.options
log_name Show call = None
log_name Eval call = None
log_name Trace call = None
log_name Conditions call = None
log_name Clauses call = None
log_name Frames call = None
log_name Make call = None
log_name Replay call = None
log_name Run call = None

abbrev pub log_named : Option Call → Option (List ℕ)
log_named None = None
log_named (Some call) = log_name call.command call

-- the name of the file that a call of the command may write: the log, or the made program
abbrev pub written_name : Command → Call → Option (List ℕ)
written_name Check call = log_name Check call
written_name Show call = None
written_name Eval call = None
written_name Trace call = None
written_name Conditions call = None
written_name Clauses call = None
written_name Frames call = None
written_name Make call = Some (file_name call 1)
written_name Replay call = None
written_name Run call = None

abbrev pub written_named : Option Call → Option (List ℕ)
written_named None = None
written_named (Some call) = written_name call.command call

-- the size of the program that a call of `make` asks for
abbrev pub number_or_zero : Option ℕ → ℕ
number_or_zero None = 0
number_or_zero (Some number) = number

abbrev pub count_of : Call → ℕ
count_of call = number_or_zero (number_at call.operands 0)

-- the number of the session that a call of `replay` asks for
abbrev pub session_of : Call → ℕ
session_of call = number_or_zero (number_at call.operands 3)

-- the highest level that a call tries, which is at most 9: the number behind `--strengthen`, and 0 where it isn't given
abbrev pub strength : Option ℕ → ℕ
strength None = 0
strength (Some level) = min level 9

abbrev pub level_of : Call → ℕ
level_of call = strength (option_number (codes "--strengthen") call.options)

abbrev pub level_named : Option Call → ℕ
level_named None = 0
level_named (Some call) = level_of call

-- the size by which a call decides conditions, which is at most 2^53: the number behind `--instances`, and the usual one where it isn't given
abbrev pub chosen_size : Option ℕ → ℕ
chosen_size None = usual_size
chosen_size (Some size) = min size greatest_size

abbrev pub size_of : Call → ℕ
size_of call = chosen_size (option_size (codes "--instances") call.options)

abbrev pub size_named : Option Call → ℕ
size_named None = usual_size
size_named (Some call) = size_of call

-- the level of the condition that a call of `eval` asks for, likewise
abbrev pub condition_level : Call → ℕ
condition_level call = strength (number_at call.operands 2)

-- a call of `check` with this file
pub record IsCheck (asked : Option Call) (name : List ℕ) : Type 0 where
  pub call : Call
  pub asked_is : asked ≡ Some call
  pub command_is : call.command ≡ Check
  pub name_is : file_name call 0 ≡ name
