use Rattle.std.proofs.Common.{◌≡◌, ◌∙◌, ap, sym}
use Rattle.csdn_core.specs.Nodes.{nodes}
use Rattle.fol_forms.specs.Limits.{capped}
use Rattle.fol_forms.specs.Renumber.{renumber}
use Rattle.fol_forms.proofs.Numbered.{nodes-renumbered}
use Rattle.fol_forms.proofs.Sized.{refused, allowed, if_made}
use Rattle.fol_forms.proofs.renumber.renumber.Goals as goal

pub returns-then-count-gt-MOST_NODES-clause-large : goal.returns-then-count-gt-MOST_NODES-clause-large
returns-then-count-gt-MOST_NODES-clause-large c =
    refused (nodes (renumber c.args.formula.now c.args.from)) c.node_count-count.result
    (c.node_count-count.ensures ∙ ap capped (sym (nodes-renumbered c.args.formula.now (λ v. v) c.args.from))) c.if-count-gt-MOST_NODES.true

pub returns-clause-form : goal.returns-clause-form
returns-clause-form c =
    if_made (λ p. p ≡ renumber c.args.formula.now c.args.from) c.renumbered.result c.or_memory.result c.or_memory.ensures c.renumbered.ensures

pub returns-clause-large : goal.returns-clause-large
returns-clause-large c =
    allowed (nodes (renumber c.args.formula.now c.args.from)) c.node_count-count.result c.renumbered.result c.or_memory.result
    (c.node_count-count.ensures ∙ ap capped (sym (nodes-renumbered c.args.formula.now (λ v. v) c.args.from))) c.if-count-gt-MOST_NODES.false c.or_memory.ensures
