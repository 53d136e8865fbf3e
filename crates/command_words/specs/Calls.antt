-- What the words of a call ask for.
use Rattle.std.specs.Prelude.{ℕ, ◌-◌, Bool, true, false, ◌&&◌, not, if◌then◌else◌, List, [], ◌∷◌, length, take, Option, Some, None}
use Rattle.std.specs.Option.{option_and_then}
use Rattle.std.specs.List.{slice_get}
use Rattle.std.specs.Str.{bytes_eq}
use Rattle.command_words.specs.declared.table.Command.{Command}
use Rattle.command_words.specs.declared.table.Command.TheVariants.{Check, Show, Eval, Trace, Conditions, Clauses, Frames, Make, Replay, Run}
use Rattle.command_words.specs.declared.table.Kind.{Kind}
use Rattle.command_words.specs.Rows.{CommandRow, commands}
use Rattle.command_words.specs.Kinds.{behind_kinds, any_number, any_size}
use Rattle.command_words.specs.Options.{behind_options, are_options, option_first, value_of}
use Rattle.command_words.specs.Call.{Call}

-- the row of the command that a word names
abbrev pub row_of : List CommandRow → List ℕ → Option CommandRow
row_of [] word = None
row_of (row ∷ rows) word = if bytes_eq row.word word then Some row else row_of rows word

-- that nothing is left behind
abbrev pub are_all : Option (List (List ℕ)) → Bool
are_all None = false
are_all (Some []) = true
are_all (Some (word ∷ words)) = false

-- nothing is left behind the operands, or nothing behind the further ones that follow
abbrev pub end_there : List Kind → Option (List (List ℕ)) → Bool
end_there further None = false
end_there further (Some []) = true
end_there further (Some (word ∷ words)) = are_all (behind_kinds further (word ∷ words))

-- the words are the operands of the command, with all further ones or none
abbrev pub are_operands : CommandRow → List (List ℕ) → Bool
are_operands row words = end_there row.further (behind_kinds row.operands words)

-- each option is given once with a value of its kind, and the operands are right, of which the first spells no option
abbrev pub is_call : CommandRow → List (List ℕ) → List (List ℕ) → Bool
is_call row options operands = are_options row.options options && not (option_first row.options operands) && are_operands row operands

-- the call of a command with these words behind its name
unfoldable pub call_by : CommandRow → List (List ℕ) → Option Call
call_by row words =
    let operands = behind_options row.options words in
    let options = take (length words - length operands) words in
    if is_call row options operands then Some (record { command = row.command; options = options; operands = operands }) else None

-- the call that these words are, by a table of commands
unfoldable pub call_of : List CommandRow → List (List ℕ) → Option Call
call_of rows [] = None
call_of rows (name ∷ words) = option_and_then (λ row. call_by row words) (row_of rows name)

-- .. by the table of the commands that are served
unfoldable pub asked_call : List (List ℕ) → Option Call
asked_call = call_of commands

-- the command serves sessions
abbrev pub serves : Command → Bool
serves Check = false
serves Show = false
serves Eval = false
serves Trace = false
serves Conditions = false
serves Clauses = false
serves Frames = false
serves Make = false
serves Replay = false
serves Run = true

-- a call, where its command serves sessions
abbrev pub if_serves : Option Call → Option Call
if_serves None = None
if_serves (Some call) = if serves call.command then Some call else None

-- .. and where it doesn't
abbrev pub unless_serves : Option Call → Option Call
unless_serves None = None
unless_serves (Some call) = if serves call.command then None else Some call

-- the number that the operand at a place is, where there is one
abbrev pub number_at : List (List ℕ) → ℕ → Option ℕ
number_at operands index = option_and_then any_number (slice_get operands index)

-- the number that the value of an option is, where it is given
abbrev pub option_number : List ℕ → List (List ℕ) → Option ℕ
option_number option options = option_and_then any_number (value_of option options)

-- .. of at most 64 bits
abbrev pub option_size : List ℕ → List (List ℕ) → Option ℕ
option_size option options = option_and_then any_size (value_of option options)
