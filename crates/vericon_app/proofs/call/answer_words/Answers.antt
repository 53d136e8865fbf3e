use Rattle.std.proofs.Common.{sym, ◌∙◌}
use Rattle.file_loads.proofs.Explaining.{if_ok}
use Rattle.vericon_app.specs.Output.{serves_none}
use Rattle.vericon_app.proofs.Outputs.{unasked}
use Rattle.vericon_app.proofs.call.answer_words.Goals as goal

pub returns-in-None-clause-output : goal.returns-in-None-clause-output
returns-in-None-clause-output g c = if_ok c.usage.result _ _ (λ outcome says. unasked serves_none _ _ _ _ (sym c.request_but_run.ensures ∙ c.in-None.is) says) c.usage.ensures
