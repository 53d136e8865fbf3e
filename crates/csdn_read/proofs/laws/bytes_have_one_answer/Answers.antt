use Rattle.csdn_read.proofs.Exact.{has_one_answer}
use Rattle.csdn_read.proofs.laws.bytes_have_one_answer.Goals as goal

pub returns : goal.returns
returns c = has_one_answer
