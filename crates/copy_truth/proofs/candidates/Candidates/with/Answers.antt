use Rattle.std.proofs.Common.{arith}
use Rattle.copy_truth.proofs.SetLaws.{has_set}
use Rattle.copy_truth.proofs.candidates.Candidates.with.Goals as goal

pub returns : goal.returns
returns c = λ other. has_set c.args.self.bits c.args.place other (omega (arith, c.if-place-ge128.false))
