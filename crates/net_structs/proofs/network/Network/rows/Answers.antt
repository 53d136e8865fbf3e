use Rattle.std.proofs.Common.{ap}
use Rattle.net_structs.proofs.Stored.{stored_sorted}
use Rattle.net_structs.proofs.network.Network.rows.Goals as goal

pub returns-clause-rising : goal.returns-clause-rising
returns-clause-rising c = stored_sorted _ _ _ _ c.rows.invariant c.in-None.ensures.steps.0 (ap (λ n. n.rows) c.self.view_is) c.self.invariant.3
