use Rattle.std.proofs.Common.{◌≡◌, ◌++◌}
use Rattle.net_structs.proofs.state.State.all_rows.Given as goal

abbrev pub invariant-rows : goal.invariant-rows
invariant-rows l = l.rows ++ l.row-iterator ≡ l.self
