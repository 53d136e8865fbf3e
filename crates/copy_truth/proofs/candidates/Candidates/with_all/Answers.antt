use Rattle.copy_truth.proofs.SetLaws.{has_or}
use Rattle.copy_truth.proofs.candidates.Candidates.with_all.Goals as goal

pub returns : goal.returns
returns c = has_or c.args.self.bits c.args.others.bits
