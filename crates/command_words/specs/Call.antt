-- The call of a command.
use Rattle.std.specs.Prelude.{ℕ, List}
use Rattle.command_words.specs.declared.table.Command.{Command}

-- its command; its options, each with its value behind it, in the order in which they stand; and its operands
pub record Call : Type 0 where
  pub command : Command
  pub options : List (List ℕ)
  pub operands : List (List ℕ)
