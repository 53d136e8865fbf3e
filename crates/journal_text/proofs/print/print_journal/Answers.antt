use Rattle.std.proofs.Common.{◌∙◌, ap, Ok}
use Rattle.text_lines.specs.Machine.{reading}
use Rattle.journal_text.specs.JournalText.{journal_format}
use Rattle.journal_text.proofs.Again.{journal_again}
use Rattle.journal_text.proofs.print.print_journal.Goals as goal

pub returns-clause-again : goal.returns-clause-again
returns-clause-again c =
    ap (reading journal_format) (c.from_vec.ensures ∙ c.in_ok-text.ensures.text) ∙ journal_again c.as_slice.result.now c.in_ok-text.ensures.limits ∙ ap Ok c.as_slice.ensures
