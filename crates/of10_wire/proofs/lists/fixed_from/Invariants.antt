use Rattle.std.proofs.Common.{◌≡◌, ◌-◌, ◌%◌, length}
use Rattle.std.specs.List.{flat_map}
use Rattle.of10_wire.proofs.Items.{IsReadFrom}
use Rattle.of10_wire.proofs.lists.fixed_from.Given as goal

abbrev pub invariant-loop-at : goal.invariant-loop-at
invariant-loop-at g l = IsReadFrom l.from (flat_map g.P.Part.slots l.list.items) l.at l.bytes × ((length l.bytes - l.at) % g.P.FixedPart.WIDTH ≡ 0)

abbrev pub decreases-loop-at : goal.decreases-loop-at
decreases-loop-at g l = length l.bytes - l.at
