use Rattle.std.proofs.Common.{refl}
use Rattle.csdn_conditions.proofs.Conditioned.{small_false}
use Rattle.csdn_conditions.proofs.condition.conclusion.Goals as goal

pub returns-in-Network : goal.returns-in-Network
returns-in-Network c = rw c.in-Network.is (refl, small_false)
