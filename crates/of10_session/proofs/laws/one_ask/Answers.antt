use Rattle.of10_session.proofs.Turns.{turn_orderly, answered_listens, passed_listens}
use Rattle.of10_session.proofs.laws.one_ask.Goals as goal

pub returns-clause-turns : goal.returns-clause-turns
returns-clause-turns c = turn_orderly

pub returns-clause-answers : goal.returns-clause-answers
returns-clause-answers c = answered_listens

pub returns-clause-passes : goal.returns-clause-passes
returns-clause-passes c = passed_listens
