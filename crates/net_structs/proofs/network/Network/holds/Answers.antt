use Rattle.std.proofs.Common.{ap}
use Rattle.net_structs.proofs.Tied.{holds_is}
use Rattle.net_structs.proofs.network.Network.holds.Goals as goal

pub returns : goal.returns
returns c = holds_is _ _ _ _ _ _ c.contains.ensures (ap (λ n. n.rows) c.self.view_is) c.copy.ensures
