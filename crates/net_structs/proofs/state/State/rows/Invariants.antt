use Rattle.std.proofs.Common.{◌≡◌, ◌++◌}
use Rattle.net_structs.specs.Rows.{rows_of}
use Rattle.net_structs.proofs.state.State.rows.Given as goal

abbrev pub invariant-rows : goal.invariant-rows
invariant-rows l = l.rows ++ rows_of l.pred l.row-iterator ≡ rows_of l.pred l.self
