use Rattle.std.proofs.Common.{◌≡◌, length, map, string_bytes}
use Rattle.command_words.specs.Options.{behind_options}
use Rattle.command_words.specs.Rows.{option_row}
use Rattle.command_words.proofs.options.behind_options.Given as goal

abbrev pub invariant-loop-rest : goal.invariant-loop-rest
invariant-loop-rest l = behind_options (map option_row l.rows) (map string_bytes l.rest) ≡ behind_options (map option_row l.rows) (map string_bytes l.words)

abbrev pub decreases-loop-rest : goal.decreases-loop-rest
decreases-loop-rest l = length l.rest
