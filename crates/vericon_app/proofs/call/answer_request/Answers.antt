use Rattle.std.proofs.Common.{sym, ◌∙◌}
use Rattle.file_loads.proofs.Explaining.{if_ok}
use Rattle.vericon_app.proofs.Outputs.{unserved}
use Rattle.vericon_app.proofs.call.answer_request.Goals as goal

pub returns-in-Run-clause-output : goal.returns-in-Run-clause-output
returns-in-Run-clause-output g c = if_ok c.usage.result _ _ (λ outcome says. unserved c.args.request.now _ _ _ (sym c.command.ensures ∙ c.in-Run.is) says) c.usage.ensures
