use Rattle.log_text.proofs.ReadBack.{log_again}
use Rattle.log_text.proofs.laws.logs_read_back.Goals as goal

pub returns : goal.returns
returns c = log_again
