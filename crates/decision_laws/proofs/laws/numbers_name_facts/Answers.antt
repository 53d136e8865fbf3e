use Rattle.decision_laws.proofs.laws.numbers_name_facts.Goals as goal
use Rattle.decision_laws.proofs.Bridge.{numbers_named}
use Rattle.decision_laws.proofs.Facts.{tuple_of-below}

pub returns-clause-facts : goal.returns-clause-facts
returns-clause-facts c = numbers_named

pub returns-clause-tuples : goal.returns-clause-tuples
returns-clause-tuples c = tuple_of-below
