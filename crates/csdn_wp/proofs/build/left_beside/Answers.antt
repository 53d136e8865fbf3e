use Rattle.csdn_core.specs.Nodes.{nodes}
use Rattle.csdn_wp.proofs.Making.{no_room_and_one, left_and_one}
use Rattle.csdn_wp.proofs.build.left_beside.Goals as goal

pub returns-then-count-room : goal.returns-then-count-room
returns-then-count-room c =
    no_room_and_one (nodes c.args.formula.now) c.node_count.result c.and_one-count.result c.args.room c.node_count.ensures c.and_one-count.ensures c.if-count-room.true

pub returns : goal.returns
returns c =
    left_and_one (nodes c.args.formula.now) c.node_count.result c.and_one-count.result c.args.room c.requires c.node_count.ensures c.and_one-count.ensures c.if-count-room.false
