use Rattle.net_structs.proofs.Tied.{has_is}
use Rattle.net_structs.proofs.state.State.has.Goals as goal

pub returns : goal.returns
returns c = has_is _ _ _ _ _ _ c.contains.ensures c.self.view_is c.copy.ensures
