use Rattle.std.proofs.Common.{◌∙◌, sym, ap}
use Rattle.net_structs.specs.Rows.{held}
use Rattle.net_structs.specs.Views.{but}
use Rattle.csdn_step.proofs.Tuples.{goes_out, stays_out, if_ok}
use Rattle.csdn_step.proofs.draft.StateDraft.remove.Goals as goal

pub returns-clause-taken : goal.returns-clause-taken
returns-clause-taken c =
    if_ok c.insert.result _ _ (λ is. ap (but (held c.args.self.now.state)) is ∙ goes_out (held c.args.self.now.state) (held c.args.self.now.gone) c.args.pred c.args.cells.now) c.insert.ensures.put

pub returns-then-not-has-clause-taken : goal.returns-then-not-has-clause-taken
returns-then-not-has-clause-taken c = stays_out (held c.args.self.now.state) (held c.args.self.now.gone) c.args.pred c.args.cells.now (sym c.has.ensures ∙ c.if-not-has.true)
