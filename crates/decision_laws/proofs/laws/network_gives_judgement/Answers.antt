use Rattle.decision_laws.proofs.laws.network_gives_judgement.Goals as goal
use Rattle.decision_laws.proofs.Upward.{law_up}

pub returns : goal.returns
returns c = law_up
