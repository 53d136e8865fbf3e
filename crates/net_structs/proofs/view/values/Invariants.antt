use Rattle.std.proofs.Common.{◌≡◌, take}
use Rattle.csdn_core.specs.Truth.{values as values_of}
use Rattle.net_structs.specs.Binds.{assignment}
use Rattle.net_structs.specs.Views.{world}
use Rattle.net_structs.proofs.view.values.Given as goal

abbrev pub invariant-loop-term : goal.invariant-loop-term
invariant-loop-term l = l.cells ≡ values_of (world l.view) (assignment l.env.pairs) (take l.term-index l.terms)
