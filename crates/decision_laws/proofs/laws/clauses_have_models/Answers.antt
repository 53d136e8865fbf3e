use Rattle.decision_laws.proofs.laws.clauses_have_models.Goals as goal
use Rattle.decision_laws.proofs.Bridge.{clauses_bounded, clauses_tied, judgement_models, model_judged, models_networks}

pub returns-clause-model : goal.returns-clause-model
returns-clause-model c = model_judged

pub returns-clause-judged : goal.returns-clause-judged
returns-clause-judged c = judgement_models

pub returns-clause-tied : goal.returns-clause-tied
returns-clause-tied c = clauses_tied

pub returns-clause-bounded : goal.returns-clause-bounded
returns-clause-bounded c = clauses_bounded

pub returns-clause-network : goal.returns-clause-network
returns-clause-network c = models_networks
