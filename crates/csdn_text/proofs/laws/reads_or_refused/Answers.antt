use Rattle.csdn_text.proofs.Exact.{has_one_answer}
use Rattle.csdn_text.proofs.laws.reads_or_refused.Goals as goal

pub returns : goal.returns
returns c = has_one_answer
