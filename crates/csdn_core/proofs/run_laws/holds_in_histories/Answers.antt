use Rattle.csdn_core.proofs.Histories.{holds_as_histories}
use Rattle.csdn_core.proofs.run_laws.holds_in_histories.Goals as goal

pub returns : goal.returns
returns c = holds_as_histories
