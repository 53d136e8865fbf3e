use Rattle.net_structs.proofs.Accepted.{answered}
use Rattle.net_structs.proofs.network.Network.try_new.Goals as goal

pub returns-clause-network : goal.returns-clause-network
returns-clause-network c = answered c.args.program.now c.args.parts c.from_parts.result c.from_parts.ensures
