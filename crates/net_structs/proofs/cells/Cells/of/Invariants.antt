use Rattle.std.proofs.Common.{◌≡◌, take}
use Rattle.net_structs.proofs.cells.Cells.of.Given as goal

abbrev pub invariant-loop-element : goal.invariant-loop-element
invariant-loop-element l = l.cells ≡ take l.element-index l.elements
