use Rattle.std.proofs.Common.{sym, ◌∙◌, map, string_bytes}
use Rattle.command_words.specs.Rows.{option_row}
use Rattle.command_words.proofs.Ends.{behind_few}
use Rattle.command_words.proofs.options.behind_options.Goals as goal

pub returns : goal.returns
returns c = sym (behind_few (map option_row c.args.rows.now) string_bytes c.loop-rest.rest.now c.in_default.len_below) ∙ c.loop-rest.invariant
