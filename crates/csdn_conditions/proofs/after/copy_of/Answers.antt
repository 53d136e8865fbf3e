use Rattle.csdn_core.specs.Nodes.{nodes}
use Rattle.fol_forms.specs.Limits.{most_nodes}
use Rattle.csdn_conditions.proofs.ClassLaws.{over_nodes, under_nodes}
use Rattle.csdn_conditions.proofs.Growth.{small_made}
use Rattle.csdn_conditions.proofs.after.copy_of.Goals as goal

pub returns-then-node_count-gt-MOST_NODES : goal.returns-then-node_count-gt-MOST_NODES
returns-then-node_count-gt-MOST_NODES c =
    over_nodes (nodes c.args.formula.now) c.node_count.result c.node_count.ensures c.if-node_count-gt-MOST_NODES.true

pub returns : goal.returns
returns c =
    small_made most_nodes c.args.formula.now c.copy.result c.or_memory.result
    (under_nodes (nodes c.args.formula.now) c.node_count.result c.node_count.ensures c.if-node_count-gt-MOST_NODES.false) c.copy.ensures c.or_memory.ensures
