use Rattle.std.proofs.Common.{refl}
use Rattle.csdn_core.specs.Truth.{truth}
use Rattle.fol_forms.specs.Forms.{normal_form}
use Rattle.decision_laws.specs.Example.{program, sentence, example_judgement, reordered_network}
use Rattle.decision_laws.proofs.ExampleLemmas.{example_fair, lists_the_same, each_once}
use Rattle.decision_laws.proofs.Networks.{law_listed}
use Rattle.decision_laws.proofs.laws.another_order_example.Goals as goal

pub returns-clause-same : goal.returns-clause-same
returns-clause-same c = lists_the_same

pub returns-clause-network : goal.returns-clause-network
unfolding normal_form
returns-clause-network c = (law_listed program sentence example_judgement (record { fair = example_fair; agrees = refl }) reordered_network lists_the_same each_once).0

pub returns-clause-judgement : goal.returns-clause-judgement
unfolding normal_form
returns-clause-judgement c = (law_listed program sentence example_judgement (record { fair = example_fair; agrees = refl }) reordered_network lists_the_same each_once).1

pub returns-clause-holds : goal.returns-clause-holds
unfolding normal_form truth
returns-clause-holds c = refl
