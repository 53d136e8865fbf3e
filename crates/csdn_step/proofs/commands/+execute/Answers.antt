use Rattle.std.proofs.Common.{◌∙◌, sym, ap}
use Rattle.csdn_core.specs.Truth.{with_var}
use Rattle.csdn_core.specs.Network.{elements}
use Rattle.csdn_core.specs.Execution.{is_true}
use Rattle.net_structs.specs.Binds.{assignment}
use Rattle.csdn_step.specs.Drafts.{standing}
use Rattle.net_structs.proofs.Binding.{extended-push}
use Rattle.csdn_step.specs.Least.{least}
use Rattle.csdn_step.specs.Courses.{drafted}
use Rattle.std.proofs.lemmas.Result.{on_ok_weaker}
use Rattle.csdn_step.proofs.Parts.{of_then, of_else, of_pick, of_none}
use Rattle.csdn_step.proofs.commands.+execute.Goals as goal

pub execute-returns-then-is_true-clause-done : goal.execute-returns-then-is_true-clause-done
execute-returns-then-is_true-clause-done t c =
    on_ok_weaker c.execute-then-is_true.result
    (λ is. is ∙ of_then _ _ _ (assignment c.args.env.now.pairs) (drafted c.args.draft.now c.args.tally.now) c.args.command.now c.get-then-is_true.result.now c.in-If.p c.in-If.a c.in-If.b c.in-If.is c.get-then-is_true.ensures
    (ap (λ p. is_true c.args.setting.now.program.now c.args.setting.now.network.now p (assignment c.args.env.now.pairs) (standing c.args.draft.now)) (sym c.get-in-If.ensures) ∙ sym c.is_true.ensures.value ∙ c.if-is_true.true))
    (rw c.is_true.ensures.same at c.execute-then-is_true.ensures.done)

pub execute-returns-else-is_true-clause-done : goal.execute-returns-else-is_true-clause-done
execute-returns-else-is_true-clause-done t c =
    on_ok_weaker c.execute-else-is_true.result
    (λ is. is ∙ of_else _ _ _ (assignment c.args.env.now.pairs) (drafted c.args.draft.now c.args.tally.now) c.args.command.now c.get-else-is_true.result.now c.in-If.p c.in-If.a c.in-If.b c.in-If.is c.get-else-is_true.ensures
    (ap (λ p. is_true c.args.setting.now.program.now c.args.setting.now.network.now p (assignment c.args.env.now.pairs) (standing c.args.draft.now)) (sym c.get-in-If.ensures) ∙ sym c.is_true.ensures.value ∙ c.if-is_true.false))
    (rw c.is_true.ensures.same at c.execute-else-is_true.ensures.done)

pub execute-returns-in-Some-clause-done : goal.execute-returns-in-Some-clause-done
execute-returns-in-Some-clause-done t c =
    on_ok_weaker c.execute_with.result
    (λ is. is ∙ of_pick _ _ _ (assignment c.args.env.now.pairs) (drafted c.args.draft.now c.args.tally.now) c.args.command.now c.get-in-Some.result.now c.in-Pick.var c.in-Pick.sort c.in-Pick.p c.in-Pick.a c.in-Pick.b c.in-Some.element c.in-Pick.is c.get-in-Some.ensures
    (ap (λ p. least (λ m. is_true c.args.setting.now.program.now c.args.setting.now.network.now p (with_var (assignment c.args.env.now.pairs) c.in-Pick.var m) (standing c.args.draft.now)) (elements c.args.setting.now.network.now c.in-Pick.sort)) (sym c.get-in-Pick.ensures) ∙ sym c.least_true.ensures.least ∙ c.in-Some.is))
    (rw c.in-Some.ensures.same at c.execute_with.ensures.done)

pub execute-returns-in-None-clause-done : goal.execute-returns-in-None-clause-done
execute-returns-in-None-clause-done t c =
    on_ok_weaker c.execute-in-None.result
    (λ is. is ∙ of_none _ _ _ (assignment c.args.env.now.pairs) (drafted c.args.draft.now c.args.tally.now) c.args.command.now c.get-in-None.result.now c.in-Pick.var c.in-Pick.sort c.in-Pick.p c.in-Pick.a c.in-Pick.b c.in-Pick.is c.get-in-None.ensures
    (ap (λ p. least (λ m. is_true c.args.setting.now.program.now c.args.setting.now.network.now p (with_var (assignment c.args.env.now.pairs) c.in-Pick.var m) (standing c.args.draft.now)) (elements c.args.setting.now.network.now c.in-Pick.sort)) (sym c.get-in-Pick.ensures) ∙ sym c.least_true.ensures.least ∙ c.in-None.is))
    (rw c.in-None.ensures.same at c.execute-in-None.ensures.done)

pub execute_with-returns-clause-done : goal.execute_with-returns-clause-done
execute_with-returns-clause-done t c = rw (c.push.ensures.pairs, extended-push) at c.execute-done.ensures.done
