use Rattle.net_facts.proofs.ListedStates.{listed}
use Rattle.net_facts.proofs.laws.states_have_truth_of_lists.Goals as goal

pub returns : goal.returns
returns c = listed
