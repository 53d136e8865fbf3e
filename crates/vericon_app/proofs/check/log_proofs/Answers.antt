use Rattle.file_loads.proofs.Explaining.{if_ok}
use Rattle.vericon_app.proofs.Yes.{logged_first}
use Rattle.vericon_app.proofs.check.log_proofs.Goals as goal

pub returns-clause-output : goal.returns-clause-output
returns-clause-output g c =
    if_ok c.write_before.result _ _ (λ said out. logged_first _ c.args.program.now c.args.level c.args.name.now c.in_ok-text.text _ c.in_ok-outcome.outcome _ _ c.in_ok-text.ensures c.as_slice.ensures c.in_ok-outcome.ensures out) c.write_before.ensures.output
