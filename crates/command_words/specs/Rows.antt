-- The table of the commands.
use Rattle.std.specs.Prelude.{ℕ, List, map}
use Rattle.std.specs.Borrow.{Bor}
use Rattle.command_words.specs.declared.table.Command.{Command}
use Rattle.command_words.specs.declared.table.Kind.{Kind}
use Rattle.command_words.specs.declared.table.TheConstants.{COMMANDS}

-- an option: its word, and what its value is
pub record OptionRow : Type 0 where
  pub word : List ℕ
  pub value : Kind

-- a command: its word, its options, what its operands are, and what further operands are
pub record CommandRow : Type 0 where
  pub word : List ℕ
  pub command : Command
  pub options : List OptionRow
  pub operands : List Kind
  pub further : List Kind

-- the rows of the code
abbrev pub option_row : Bor (List ℕ) × Kind → OptionRow
option_row row = record { word = row.0.now; value = row.1 }

abbrev pub command_row : Bor (List ℕ) × Command × Bor (List (Bor (List ℕ) × Kind)) × Bor (List Kind) × Bor (List Kind) → CommandRow
command_row row = record { word = row.0.now; command = row.1; options = map option_row row.2.now; operands = row.3.now; further = row.4.now }

-- the commands that are served
unfoldable pub commands : List CommandRow
commands =
    map (λ row. record { word = row.0.now; command = row.1; options = map (λ option. record { word = option.0.now; value = option.1 }) row.2.now; operands = row.3.now; further = row.4.now }) COMMANDS
