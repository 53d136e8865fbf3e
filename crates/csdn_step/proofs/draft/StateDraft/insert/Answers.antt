use Rattle.std.proofs.Common.{◌∙◌, sym, ap, ap₂}
use Rattle.csdn_core.specs.Network.{State}
use Rattle.net_structs.specs.Rows.{held}
use Rattle.net_structs.specs.Views.{but}
use Rattle.csdn_step.proofs.Tuples.{put_back, put_new, noted, if_ok}
use Rattle.csdn_step.proofs.draft.StateDraft.insert.Goals as goal

pub returns-then-has-clause-put : goal.returns-then-has-clause-put
returns-then-has-clause-put c =
    ap (but (held c.args.self.now.state)) c.remove-was_gone.ensures.taken
    ∙ put_back (held c.args.self.now.state) (held c.args.self.now.gone) c.args.pred c.args.cells.now (sym c.has.ensures ∙ c.if-has.true)

pub returns-clause-put : goal.returns-clause-put
returns-clause-put c =
    if_ok c.insert.result _ _
    (λ is. ap₂ (λ (x g : State). but x g) is c.remove-was_gone.ensures.taken ∙ put_new (held c.args.self.now.state) (held c.args.self.now.gone) c.args.pred c.args.cells.now)
    c.insert.ensures.put

pub returns-clause-start : goal.returns-clause-start
returns-clause-start c =
    noted c.insert.result c.args.self.now.added c.push.new.self c.args.self.now.state c.insert.new.self c.args.pred c.copy.result c.args.cells.now c.in_ok-push.ensures.ok c.copy.ensures (sym c.has.ensures ∙ c.if-has.false)
    c.insert.ensures.rows c.insert.ensures.err
