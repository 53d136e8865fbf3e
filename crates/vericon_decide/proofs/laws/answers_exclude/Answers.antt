use Rattle.vericon_decide.proofs.Exact.{are_one}
use Rattle.vericon_decide.proofs.laws.answers_exclude.Goals as goal

pub returns : goal.returns
returns c = are_one
