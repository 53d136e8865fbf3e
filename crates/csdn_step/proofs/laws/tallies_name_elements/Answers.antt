use Rattle.csdn_step.specs.declared.setting.Sending.TheVariants.{Kept}
use Rattle.csdn_step.proofs.Telling.{fired_tells}
use Rattle.csdn_step.proofs.laws.tallies_name_elements.Goals as goal

pub returns : goal.returns
returns c = λ P N sorted network x event known. fired_tells P N network Kept sorted event x known
