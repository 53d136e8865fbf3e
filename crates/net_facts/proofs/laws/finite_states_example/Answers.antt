use Rattle.net_facts.specs.Example.{quiet_program}
use Rattle.net_facts.proofs.ExampleLemmas.{is_well_sorted, inductive_finitely}
use Rattle.net_facts.proofs.FiniteInduction.{finite_induction}
use Rattle.net_facts.proofs.laws.finite_states_example.Goals as goal

pub returns-clause-sorted : goal.returns-clause-sorted
returns-clause-sorted c = is_well_sorted

pub returns-clause-finitely : goal.returns-clause-finitely
returns-clause-finitely c = inductive_finitely

pub returns-clause-inductive : goal.returns-clause-inductive
returns-clause-inductive c = (finite_induction quiet_program is_well_sorted 0).1 inductive_finitely
