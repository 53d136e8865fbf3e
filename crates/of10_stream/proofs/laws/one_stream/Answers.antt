use Rattle.of10_stream.proofs.Once.{one}
use Rattle.of10_stream.proofs.laws.one_stream.Goals as goal

pub returns : goal.returns
returns c = one
