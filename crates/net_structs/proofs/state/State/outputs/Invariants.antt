use Rattle.std.proofs.Common.{◌≡◌, ◌++◌}
use Rattle.net_structs.specs.Flows.{outputs_of}
use Rattle.net_structs.proofs.state.State.outputs.Given as goal

abbrev pub invariant-rows : goal.invariant-rows
invariant-rows l = l.ports ++ outputs_of l.key l.row-iterator ≡ outputs_of l.key l.self
