use Rattle.std.proofs.Common.{inl, inr, rules}
use Rattle.csdn_core.specs.Nodes.{nodes}
use Rattle.fol_forms.specs.Forms.{form_of}
use Rattle.fol_forms.specs.Written.{written}
use Rattle.csdn_conditions.specs.Classes.{copied}
use Rattle.csdn_conditions.proofs.ClassLaws.{over_nodes, under_nodes, over_size, under_size}
use Rattle.csdn_conditions.proofs.class.class_of.Goals as goal

pub returns-then-node_count-gt-MOST_NODES : goal.returns-then-node_count-gt-MOST_NODES
returns-then-node_count-gt-MOST_NODES c =
    inl (over_nodes (nodes c.args.sentence.now) c.node_count.result c.node_count.ensures c.if-node_count-gt-MOST_NODES.true)

pub returns-then-count_of-gt-MOST_NODES : goal.returns-then-count_of-gt-MOST_NODES
returns-then-count_of-gt-MOST_NODES c =
    inr
    (over_nodes (nodes (written (form_of c.args.sentence.now))) c.count_of.result c.count_of.ensures
    c.if-count_of-gt-MOST_NODES.true)

pub returns-then-not-in_fragment : goal.returns-then-not-in_fragment
returns-then-not-in_fragment c = (
  (
    under_nodes (nodes c.args.sentence.now) c.node_count.result c.node_count.ensures c.if-node_count-gt-MOST_NODES.false,
    under_nodes (nodes (written (form_of c.args.sentence.now))) c.count_of.result c.count_of.ensures
        c.if-count_of-gt-MOST_NODES.false,
  ),
  search rules,
)

pub returns-then-count-size : goal.returns-then-count-size
returns-then-count-size c = (
  (
    under_nodes (nodes c.args.sentence.now) c.node_count.result c.node_count.ensures c.if-node_count-gt-MOST_NODES.false,
    under_nodes (nodes (written (form_of c.args.sentence.now))) c.count_of.result c.count_of.ensures
        c.if-count_of-gt-MOST_NODES.false,
  ),
  search rules,
  over_size (copied c.args.program.now c.args.sentence.now) c.instance_count-count.result c.args.size c.instance_count-count.ensures c.if-count-size.true,
  c.instance_count-count.ensures,
)

pub returns : goal.returns
returns c = (
  (
    under_nodes (nodes c.args.sentence.now) c.node_count.result c.node_count.ensures c.if-node_count-gt-MOST_NODES.false,
    under_nodes (nodes (written (form_of c.args.sentence.now))) c.count_of.result c.count_of.ensures
        c.if-count_of-gt-MOST_NODES.false,
  ),
  search rules,
  under_size (copied c.args.program.now c.args.sentence.now) c.instance_count-count.result c.args.size c.requires c.instance_count-count.ensures c.if-count-size.false,
)
