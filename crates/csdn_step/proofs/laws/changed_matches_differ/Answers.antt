use Rattle.csdn_step.specs.declared.setting.Sending.TheVariants.{Kept}
use Rattle.csdn_step.proofs.Changes.{changed_is}
use Rattle.csdn_step.proofs.laws.changed_matches_differ.Goals as goal

pub returns : goal.returns
returns c = λ P N x event enabled m. changed_is P N Kept event x enabled m
