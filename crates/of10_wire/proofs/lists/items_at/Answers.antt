use Rattle.std.proofs.Common.{◌+◌, ◌-◌}
use Rattle.of10_wire.specs.Layout.{part}
use Rattle.of10_wire.specs.Lists.{IsRefusedIn}
use Rattle.of10_wire.proofs.Items.{items_there}
use Rattle.of10_wire.proofs.lists.items_at.Goals as goal

pub returns : goal.returns
unfolding part
returns g c = items_there g.I.Part.slots c.args.from c.args.to c.args.bytes.now c.items.result (IsRefusedIn g.I.Part.slots g.I.Item.refuses (c.args.base + c.args.from) (part (c.args.to - c.args.from) c.args.from c.args.bytes.now)) c.requires.from c.requires.to c.items.ensures
