use Rattle.net_structs.proofs.OneList.{one_list}
use Rattle.net_structs.proofs.laws.states_have_one_list.Goals as goal

pub returns : goal.returns
returns c = one_list
