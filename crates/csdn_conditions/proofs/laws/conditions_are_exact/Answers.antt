use Rattle.csdn_conditions.proofs.Complete.{complete, no_network}
use Rattle.csdn_conditions.proofs.Inductive.{sound}
use Rattle.csdn_conditions.proofs.laws.conditions_are_exact.Goals as goal

pub returns-clause-sound : goal.returns-clause-sound
returns-clause-sound c = λ P well n valid. sound P well n valid

pub returns-clause-complete : goal.returns-clause-complete
returns-clause-complete c = λ P well n inductive i asked there past. complete P well n inductive i asked there past

pub returns-clause-network : goal.returns-clause-network
returns-clause-network c = λ P well n. no_network P well n
