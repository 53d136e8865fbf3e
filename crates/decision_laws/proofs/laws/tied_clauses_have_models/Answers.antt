use Rattle.decision_laws.proofs.laws.tied_clauses_have_models.Goals as goal
use Rattle.decision_laws.proofs.Bridge.{refuted_networks, tied_models}

pub returns-clause-model : goal.returns-clause-model
returns-clause-model c = tied_models

pub returns-clause-refuted : goal.returns-clause-refuted
returns-clause-refuted c = refuted_networks
