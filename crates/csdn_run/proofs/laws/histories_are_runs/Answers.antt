use Rattle.csdn_run.proofs.Happened.{history_runs}
use Rattle.csdn_run.proofs.laws.histories_are_runs.Goals as goal

pub returns : goal.returns
returns c = λ P N sorted entries. history_runs P N sorted entries
