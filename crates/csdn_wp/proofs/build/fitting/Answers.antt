use Rattle.std.proofs.Common.{refl}
use Rattle.csdn_core.specs.Nodes.{nodes}
use Rattle.csdn_wp.proofs.Making.{no_room, has_room}
use Rattle.csdn_wp.proofs.build.fitting.Goals as goal

pub returns-then-node_count-room : goal.returns-then-node_count-room
returns-then-node_count-room c = no_room (nodes c.args.formula) c.node_count.result c.args.room c.node_count.ensures c.if-node_count-room.true

pub returns : goal.returns
returns c = (refl, has_room (nodes c.args.formula) c.node_count.result c.args.room c.requires c.node_count.ensures c.if-node_count-room.false)
