use Rattle.std.proofs.Common.{◌≡◌, length, map}
use Rattle.command_words.specs.Calls.{row_of}
use Rattle.command_words.specs.Rows.{command_row}
use Rattle.command_words.proofs.read.row_of.Given as goal

abbrev pub invariant-loop-rest : goal.invariant-loop-rest
invariant-loop-rest l = row_of (map command_row l.rest) l.word ≡ row_of (map command_row l.rows) l.word

abbrev pub decreases-loop-rest : goal.decreases-loop-rest
decreases-loop-rest l = length l.rest
