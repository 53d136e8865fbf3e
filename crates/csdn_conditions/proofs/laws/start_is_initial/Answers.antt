use Rattle.csdn_conditions.proofs.StartTruth.{is_initial, start_true}
use Rattle.csdn_conditions.proofs.laws.start_is_initial.Goals as goal

pub returns : goal.returns
returns c = λ P sorted N x packet. (is_initial P N x packet sorted, start_true P N x packet sorted)
