use Rattle.std.proofs.Common.{sym, ◌∙◌, string_bytes}
use Rattle.command_words.proofs.Ends.{value_in_few}
use Rattle.command_words.proofs.options.value_of.Goals as goal

pub returns : goal.returns
returns c = sym (value_in_few c.args.option.now string_bytes c.loop-rest.rest.now c.in_default.len_below) ∙ c.loop-rest.invariant
