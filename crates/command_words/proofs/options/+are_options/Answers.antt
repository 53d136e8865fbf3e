use Rattle.std.proofs.Common.{map, string_bytes, refl}
use Rattle.command_words.specs.Rows.{option_row}
use Rattle.command_words.proofs.Ends.{options_step}
use Rattle.command_words.proofs.options.+are_options.Goals as goal

pub returns-then-is_right : goal.returns-then-is_right
returns-then-is_right m c =
    let step = options_step (map option_row c.args.rows.now) string_bytes c.args.options.now c.option-item.result c.value-item.result c.as_str.result.now c.as_str-in-len2-up.result.now c.in-len2-up.len_at_least c.option-item.is c.value-item.is c.as_str.ensures.value c.as_str-in-len2-up.ensures.value in
    rw (step, ← c.is_right.ensures, c.if-is_right.true) c.are_options.ensures

pub returns-else-is_right : goal.returns-else-is_right
returns-else-is_right m c =
    let step = options_step (map option_row c.args.rows.now) string_bytes c.args.options.now c.option-item.result c.value-item.result c.as_str.result.now c.as_str-in-len2-up.result.now c.in-len2-up.len_at_least c.option-item.is c.value-item.is c.as_str.ensures.value c.as_str-in-len2-up.ensures.value in
    rw (step, ← c.is_right.ensures, c.if-is_right.false) refl
