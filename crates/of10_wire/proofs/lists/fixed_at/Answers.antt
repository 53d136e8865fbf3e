use Rattle.std.proofs.Common.{◌+◌, drop, arith}
use Rattle.of10_wire.specs.Layout.{Stand}
use Rattle.of10_wire.proofs.Standing.{Stand-at, Stand-drop}
use Rattle.of10_wire.proofs.lists.fixed_at.Goals as goal

pub returns-clause-stand : goal.returns-clause-stand
returns-clause-stand g c =
    let there : Stand 0 (g.P.Part.slots c.read.result) (drop c.args.at c.args.bytes.now) = rw (← c.rest_from.ensures) c.read.ensures.stand in
    Stand-at (c.args.at + 0) c.args.at (g.P.Part.slots c.read.result) c.args.bytes.now (omega arith) (Stand-drop 0 c.args.at (g.P.Part.slots c.read.result) c.args.bytes.now there)
