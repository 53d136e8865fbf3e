use Rattle.copy_truth.proofs.SetLaws.{has_ones}
use Rattle.copy_truth.proofs.candidates.Candidates.all.Goals as goal

pub returns : goal.returns
returns c = has_ones
