use Rattle.net_facts.proofs.FiniteInduction.{finite_induction}
use Rattle.net_facts.proofs.laws.finite_states_suffice.Goals as goal

pub returns : goal.returns
returns c = finite_induction
