use Rattle.std.proofs.Common.{◌≡◌}
use Rattle.csdn_core.specs.Nodes.{nodes}
use Rattle.fol_forms.specs.Changes.{replacement}
use Rattle.fol_forms.specs.Replace.{replace}
use Rattle.fol_forms.proofs.Sized.{refused, allowed, if_made}
use Rattle.fol_forms.proofs.replace.changed.Goals as goal

pub returns-then-count-gt-MOST_NODES-clause-large : goal.returns-then-count-gt-MOST_NODES-clause-large
returns-then-count-gt-MOST_NODES-clause-large c =
    refused (nodes (replace (replacement c.args.change.now) c.args.formula.now)) c.count_of-count.result c.count_of-count.ensures c.if-count-gt-MOST_NODES.true

pub returns-clause-form : goal.returns-clause-form
returns-clause-form c =
    if_made (λ p. p ≡ replace (replacement c.args.change.now) c.args.formula.now) c.made.result c.or_memory.result c.or_memory.ensures c.made.ensures

pub returns-clause-large : goal.returns-clause-large
returns-clause-large c =
    allowed (nodes (replace (replacement c.args.change.now) c.args.formula.now)) c.count_of-count.result c.made.result c.or_memory.result c.count_of-count.ensures c.if-count-gt-MOST_NODES.false c.or_memory.ensures
