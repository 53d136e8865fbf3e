use Rattle.csdn_step.proofs.Elements.{start_keeps, step_keeps}
use Rattle.csdn_step.proofs.laws.steps_keep_elements.Goals as goal

pub returns-clause-start : goal.returns-clause-start
returns-clause-start c = λ P N sorted network. start_keeps P N network sorted

pub returns-clause-step : goal.returns-clause-step
returns-clause-step c = λ P N sorted network x y event step of. step_keeps P N network sorted x y event step of
