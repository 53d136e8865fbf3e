use Rattle.net_structs.proofs.Exact.{exact}
use Rattle.net_structs.proofs.laws.networks_are_accepted_exactly.Goals as goal

pub returns : goal.returns
returns c = exact
