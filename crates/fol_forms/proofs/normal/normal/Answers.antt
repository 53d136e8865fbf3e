use Rattle.std.proofs.Common.{◌≡◌, not}
use Rattle.csdn_core.specs.Nodes.{nodes}
use Rattle.fol_forms.specs.Forms.{normal_form}
use Rattle.fol_forms.specs.Written.{written}
use Rattle.fol_forms.proofs.Sized.{refused, allowed, if_made}
use Rattle.fol_forms.proofs.normal.normal.Goals as goal

pub returns-then-count-gt-MOST_NODES-clause-large : goal.returns-then-count-gt-MOST_NODES-clause-large
returns-then-count-gt-MOST_NODES-clause-large c =
    refused (nodes (written (normal_form (not c.args.negate) c.args.formula.now))) c.count_of-count.result c.count_of-count.ensures c.if-count-gt-MOST_NODES.true

pub returns-clause-form : goal.returns-clause-form
returns-clause-form c =
    if_made (λ p. p ≡ written (normal_form (not c.args.negate) c.args.formula.now)) c.made.result c.or_memory.result c.or_memory.ensures c.made.ensures

pub returns-clause-large : goal.returns-clause-large
returns-clause-large c =
    allowed (nodes (written (normal_form (not c.args.negate) c.args.formula.now))) c.count_of-count.result c.made.result c.or_memory.result c.count_of-count.ensures c.if-count-gt-MOST_NODES.false c.or_memory.ensures
