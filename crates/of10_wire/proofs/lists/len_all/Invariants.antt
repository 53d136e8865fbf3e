use Rattle.std.proofs.Common.{◌≡◌, ◌<◌, take}
use Rattle.std.specs.List.{flat_map}
use Rattle.of10_wire.specs.Layout.{width}
use Rattle.of10_wire.proofs.lists.len_all.Given as goal

abbrev pub invariant-loop-part : goal.invariant-loop-part
invariant-loop-part g l = (l.len ≡ width (flat_map g.P.Part.slots (take l.part-index l.parts))) × (l.len < 65536)
