use Rattle.journal_text.proofs.Again.{journal_again}
use Rattle.journal_text.proofs.laws.journals_read_back.Goals as goal

pub returns : goal.returns
returns c = journal_again
