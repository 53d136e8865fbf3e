use Rattle.std.proofs.Common.{◌≡◌}
use Rattle.net_structs.specs.Rows.{held}
use Rattle.net_structs.specs.Views.{but}
use Rattle.net_structs.proofs.state.State.remove_all.Given as goal

abbrev pub invariant-rows : goal.invariant-rows
invariant-rows l = but (held l.self) (held l.row-iterator) ≡ but (held l.fn.self) (held l.gone)
