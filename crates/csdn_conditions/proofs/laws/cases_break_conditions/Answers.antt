use Rattle.csdn_conditions.proofs.Cases.{case_closed, case_sentence, case_valid, case_network}
use Rattle.csdn_conditions.proofs.laws.cases_break_conditions.Goals as goal

pub returns-clause-sentence : goal.returns-clause-sentence
returns-clause-sentence c = case_sentence

pub returns-clause-closed : goal.returns-clause-closed
returns-clause-closed c = case_closed

pub returns-clause-valid : goal.returns-clause-valid
returns-clause-valid c = case_valid

pub returns-clause-network : goal.returns-clause-network
returns-clause-network c = case_network
