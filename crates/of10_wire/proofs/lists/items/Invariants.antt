use Rattle.std.proofs.Common.{◌-◌, length}
use Rattle.std.specs.List.{flat_map}
use Rattle.of10_wire.proofs.Items.{IsReadUpTo}
use Rattle.of10_wire.proofs.lists.items.Given as goal

abbrev pub invariant-loop-at : goal.invariant-loop-at
invariant-loop-at g l = IsReadUpTo (flat_map g.I.Part.slots l.list.items) l.at l.bytes

abbrev pub decreases-loop-at : goal.decreases-loop-at
decreases-loop-at g l = length l.bytes - l.at
