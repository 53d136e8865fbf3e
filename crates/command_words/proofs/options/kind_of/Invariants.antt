use Rattle.std.proofs.Common.{◌≡◌, length, map}
use Rattle.command_words.specs.Options.{kind_of}
use Rattle.command_words.specs.Rows.{option_row}
use Rattle.command_words.proofs.options.kind_of.Given as goal

abbrev pub invariant-loop-rest : goal.invariant-loop-rest
invariant-loop-rest l = kind_of (map option_row l.rest) l.word ≡ kind_of (map option_row l.rows) l.word

abbrev pub decreases-loop-rest : goal.decreases-loop-rest
decreases-loop-rest l = length l.rest
