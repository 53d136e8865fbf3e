use Rattle.std.proofs.Common.{◌∙◌, sym}
use Rattle.csdn_core.specs.Truth.{with_var}
use Rattle.csdn_core.specs.Execution.{is_true}
use Rattle.net_structs.specs.Binds.{assignment}
use Rattle.csdn_step.specs.Drafts.{standing}
use Rattle.csdn_step.proofs.Leasts.{first_now, first_later}
use Rattle.csdn_step.proofs.commands.first_true.Goals as goal

pub returns-then-is_true_of-clause-first : goal.returns-then-is_true_of-clause-first
returns-then-is_true_of-clause-first c =
    first_now (λ m. is_true c.args.setting.now.program.now c.args.setting.now.network.now c.args.formula.now (with_var (assignment c.args.env.now.pairs) c.args.var m) (standing c.args.draft.now)) c.elements.rest.now _ c.in-len1-up.len_at_least
    (sym (rw c.elements.invariant.0 at c.is_true_of.ensures.value) ∙ c.if-is_true_of.true) c.elements.invariant.1

pub elements-preserved : goal.elements-preserved
elements-preserved c = (
  c.is_true_of.ensures.same ∙ c.elements.invariant.0,
  first_later (λ m. is_true c.args.setting.now.program.now c.args.setting.now.network.now c.args.formula.now (with_var (assignment c.args.env.now.pairs) c.args.var m) (standing c.args.draft.now)) c.elements.rest.now _ c.in-len1-up.len_at_least
      (sym (rw c.elements.invariant.0 at c.is_true_of.ensures.value) ∙ c.if-is_true_of.false) c.elements.invariant.1,
)
