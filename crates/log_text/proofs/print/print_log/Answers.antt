use Rattle.std.proofs.Common.{◌∙◌, ap}
use Rattle.text_lines.specs.Machine.{reading}
use Rattle.log_text.specs.LogText.{log_format, log_text}
use Rattle.log_text.proofs.ReadBack.{log_again}
use Rattle.log_text.proofs.print.print_log.Goals as goal

pub returns-clause-again : goal.returns-clause-again
returns-clause-again c = ap (reading log_format) (c.from_vec.ensures ∙ c.in_ok-text.ensures ∙ ap log_text c.as_slice.ensures) ∙ log_again c.args.blocks.now c.requires
