use Rattle.decision_laws.proofs.laws.some_clauses_suffice.Goals as goal
use Rattle.decision_laws.proofs.Bridge.{part_tied, part_models}
use Rattle.decision_laws.proofs.Left.{still_part, falls, model_of_all}

pub returns-clause-tied : goal.returns-clause-tied
returns-clause-tied c = part_tied

pub returns-clause-model : goal.returns-clause-model
returns-clause-model c = part_models

pub returns-clause-whole : goal.returns-clause-whole
returns-clause-whole c = λ whole cs v. model_of_all whole v

pub returns-clause-part : goal.returns-clause-part
returns-clause-part c = still_part

pub returns-clause-left : goal.returns-clause-left
returns-clause-left c = falls
