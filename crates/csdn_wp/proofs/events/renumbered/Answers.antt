use Rattle.csdn_wp.proofs.Eventing.{anew_too_large, numbers_left}
use Rattle.csdn_wp.proofs.events.renumbered.Goals as goal

pub returns-then-node_count-gt-MOST_NODES : goal.returns-then-node_count-gt-MOST_NODES
returns-then-node_count-gt-MOST_NODES c = anew_too_large c.args.post.now c.args.from c.node_count.result c.node_count.ensures c.if-node_count-gt-MOST_NODES.true

pub renumber-requires : goal.renumber-requires
renumber-requires c = numbers_left c.args.post.now c.args.from c.node_count.result c.requires c.node_count.ensures c.if-node_count-gt-MOST_NODES.false
