use Rattle.decision_laws.proofs.Bridge.{few_copies}
use Rattle.decision_laws.proofs.Weights.{size-copies}
use Rattle.decision_laws.proofs.laws.copies_have_weights.Goals as goal

pub returns-clause-few : goal.returns-clause-few
returns-clause-few c = few_copies

pub returns-clause-weight : goal.returns-clause-weight
returns-clause-weight c = size-copies
