use Rattle.net_structs.proofs.Tied.{has_is, take_is}
use Rattle.net_structs.proofs.state.State.remove.Goals as goal

pub returns-clause-was_there : goal.returns-clause-was_there
returns-clause-was_there c = has_is _ _ _ _ _ _ c.remove.ensures.test c.self.view_is c.copy.ensures

pub returns-clause-taken : goal.returns-clause-taken
returns-clause-taken c = take_is _ _ _ _ _ _ c.remove.ensures.updates.0 c.self.view_is c.copy.ensures
