use Rattle.std.proofs.Common.{◌≡◌, IfOk, subst}
use Rattle.csdn_core.specs.Nodes.{nodes}
use Rattle.fol_forms.specs.Closed.{closed}
use Rattle.fol_forms.proofs.Sized.{refused, allowed, if_made}
use Rattle.fol_forms.proofs.close.close.Goals as goal

pub returns-then-count-gt-MOST_NODES-clause-large : goal.returns-then-count-gt-MOST_NODES-clause-large
returns-then-count-gt-MOST_NODES-clause-large c =
    refused (nodes (closed c.args.binds.now c.args.formula)) c.count_of-count.result c.count_of-count.ensures c.if-count-gt-MOST_NODES.true

pub returns-clause-form : goal.returns-clause-form
returns-clause-form c =
    if_made (λ p. p ≡ closed c.args.binds.now c.args.formula) c.closed_by.result c.or_memory.result c.or_memory.ensures
    (subst (λ bs. IfOk c.closed_by.result (λ p. p ≡ closed bs c.args.formula)) c.as_slice.ensures c.closed_by.ensures)

pub returns-clause-large : goal.returns-clause-large
returns-clause-large c =
    allowed (nodes (closed c.args.binds.now c.args.formula)) c.count_of-count.result c.closed_by.result c.or_memory.result c.count_of-count.ensures c.if-count-gt-MOST_NODES.false c.or_memory.ensures
