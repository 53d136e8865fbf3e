use Rattle.std.proofs.Common.{sym}
use Rattle.file_loads.proofs.Opening.{closed_by_state}
use Rattle.file_loads.proofs.networks.open_network.Goals as goal

pub returns-then-is_some : goal.returns-then-is_some
returns-then-is_some c = (closed_by_state c.args.name.now c.args.case _ (sym c.if-is_some.ensures) c.in_ok-has_state.ensures.0, c.in_ok-has_state.ensures.1)
