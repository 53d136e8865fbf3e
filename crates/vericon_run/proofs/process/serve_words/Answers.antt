use Rattle.std.proofs.Common.{sym, ◌∙◌}
use Rattle.vericon_run.proofs.All.{left_by_others, left_by_run}
use Rattle.vericon_run.proofs.process.serve_words.Goals as goal

pub returns-in-Some-clause-output : goal.returns-in-Some-clause-output
returns-in-Some-clause-output g c = left_by_run _ _ _ _ _ _ _ _ _ (sym c.run_request.ensures ∙ c.in-Some.is) c.run_call.ensures.output

pub returns-in-None-clause-output : goal.returns-in-None-clause-output
returns-in-None-clause-output g c = left_by_others _ _ _ _ _ _ _ _ (sym c.run_request.ensures ∙ c.in-None.is) c.check_call.ensures.output
