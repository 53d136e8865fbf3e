use Rattle.std.proofs.Common.{◌∙◌, ◌+◌, ap₂, ap, sym}
use Rattle.fol_forms.proofs.WrittenNodes.{both_nodes}
use Rattle.csdn_core.specs.Nodes.{nodes}
use Rattle.csdn_core.specs.Tree.{conjunction}
use Rattle.fol_forms.specs.Limits.{capped, most_nodes}
use Rattle.fol_forms.proofs.Capped.{capped-sum_and_one}
use Rattle.csdn_conditions.proofs.ClassLaws.{over_nodes, under_nodes}
use Rattle.csdn_conditions.proofs.Growth.{small_made}
use Rattle.csdn_conditions.proofs.after.both.Goals as goal

pub returns-then-sum_and_one-gt-MOST_NODES : goal.returns-then-sum_and_one-gt-MOST_NODES
returns-then-sum_and_one-gt-MOST_NODES c =
    over_nodes (nodes (conjunction c.args.p c.args.q)) c.sum_and_one.result
    (c.sum_and_one.ensures ∙ ap₂ (λ a b. capped (a + b + 1)) c.node_count.ensures c.node_count-2.ensures ∙ capped-sum_and_one (nodes c.args.p) (nodes c.args.q)
    ∙ ap capped (sym (both_nodes c.args.p c.args.q)))
    c.if-sum_and_one-gt-MOST_NODES.true

pub returns : goal.returns
returns c =
    small_made most_nodes (conjunction c.args.p c.args.q) c.two.result c.or_memory.result
    (under_nodes (nodes (conjunction c.args.p c.args.q)) c.sum_and_one.result
    (c.sum_and_one.ensures ∙ ap₂ (λ a b. capped (a + b + 1)) c.node_count.ensures c.node_count-2.ensures ∙ capped-sum_and_one (nodes c.args.p) (nodes c.args.q)
    ∙ ap capped (sym (both_nodes c.args.p c.args.q)))
    c.if-sum_and_one-gt-MOST_NODES.false)
    c.two.ensures c.or_memory.ensures
