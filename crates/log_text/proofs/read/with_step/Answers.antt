use Rattle.log_text.proofs.Inside.{step_distinct}
use Rattle.log_text.proofs.read.with_step.Goals as goal

pub with_line-requires : goal.with_line-requires
with_line-requires c = step_distinct c.atoms.result _ _ c.in_ok-line.ensures
