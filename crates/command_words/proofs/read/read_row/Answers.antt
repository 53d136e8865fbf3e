use Rattle.std.proofs.Common.{string_bytes, map, sym, ◌∙◌}
use Rattle.command_words.specs.Rows.{option_row, command_row}
use Rattle.command_words.proofs.Ends.{operands_within, no_call, a_call}
use Rattle.command_words.proofs.read.read_row.Goals as goal

pub slice_bounds-options-count : goal.slice_bounds-options-count
slice_bounds-options-count c =
    operands_within (map option_row c.args.row.now.2.now) string_bytes c.args.words.now c.behind_options-operands.result.now c.behind_options-operands.ensures

pub returns-then-not-is_call : goal.returns-then-not-is_call
returns-then-not-is_call c =
    no_call (command_row c.args.row.now) string_bytes c.args.words.now c.behind_options-operands.result.now c.behind_options-operands.ensures (sym c.is_call.ensures ∙ c.if-not-is_call.true)

pub returns : goal.returns
returns c =
    a_call (command_row c.args.row.now) string_bytes c.args.words.now c.behind_options-operands.result.now c.behind_options-operands.ensures (sym c.is_call.ensures ∙ c.if-not-is_call.false)
