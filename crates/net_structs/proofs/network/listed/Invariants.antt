use Rattle.std.proofs.Common.{◌≡◌, ◌++◌}
use Rattle.net_structs.proofs.network.listed.Given as goal

abbrev pub invariant-elements : goal.invariant-elements
invariant-elements l = l.elements ++ l.element-iterator ≡ l.set.keys
