use Rattle.net_facts.proofs.GivenCases.{answer_is_case, answer_in_order, answer_again}
use Rattle.net_facts.proofs.laws.texts_give_cases.Goals as goal

pub returns : goal.returns
returns c = record { case = answer_is_case; in_order = answer_in_order; again = answer_again }
