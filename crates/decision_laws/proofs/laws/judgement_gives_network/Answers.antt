use Rattle.decision_laws.proofs.laws.judgement_gives_network.Goals as goal
use Rattle.decision_laws.proofs.Downward.{law_down, law_names}
use Rattle.decision_laws.proofs.Networks.{law_counted, law_listed, law_network, law_numbers}

pub returns-clause-network : goal.returns-clause-network
returns-clause-network c = law_network

pub returns-clause-numbers : goal.returns-clause-numbers
returns-clause-numbers c = law_numbers

pub returns-clause-counted : goal.returns-clause-counted
returns-clause-counted c = law_counted

pub returns-clause-listed : goal.returns-clause-listed
returns-clause-listed c = law_listed

pub returns-clause-any : goal.returns-clause-any
returns-clause-any c = law_down

pub returns-clause-names : goal.returns-clause-names
returns-clause-names c = law_names
