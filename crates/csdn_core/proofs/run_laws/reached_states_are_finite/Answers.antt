use Rattle.csdn_core.proofs.FiniteStates.{reached_finite}
use Rattle.csdn_core.proofs.run_laws.reached_states_are_finite.Goals as goal

pub returns : goal.returns
returns c = reached_finite
