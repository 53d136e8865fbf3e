use Rattle.file_loads.proofs.Explaining.{if_ok}
use Rattle.vericon_app.specs.Eval.{has_both}
use Rattle.vericon_app.proofs.eval.condition_in.Goals as goal

pub returns-in-Some : goal.returns-in-Some
returns-in-Some c = if_ok c.condition_lines.result _ _ (λ outcome told. has_both c.in-Some.state c.in-Some.is told) c.condition_lines.ensures
