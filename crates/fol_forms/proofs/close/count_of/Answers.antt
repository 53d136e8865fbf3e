use Rattle.std.proofs.Common.{◌∙◌, ◌+◌, ap, ap₂, sym, length}
use Rattle.csdn_core.specs.Nodes.{nodes}
use Rattle.fol_forms.specs.Limits.{capped}
use Rattle.fol_forms.proofs.Capped.{capped-sum_left}
use Rattle.fol_forms.proofs.ClosedTruth.{nodes-closed}
use Rattle.fol_forms.proofs.close.count_of.Goals as goal

pub returns : goal.returns
returns c =
    c.sum.ensures ∙ ap₂ (λ a b. capped (a + b)) c.node_count-count.ensures c.len-more.ensures
    ∙ capped-sum_left (nodes c.args.formula.now) (length c.args.binds.now) ∙ ap capped (sym (nodes-closed c.args.binds.now c.args.formula.now))
