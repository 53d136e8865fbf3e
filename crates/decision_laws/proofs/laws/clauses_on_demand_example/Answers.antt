use Rattle.std.proofs.Common.{refl}
use Rattle.fol_forms.specs.Forms.{normal_form}
use Rattle.decision_laws.specs.Example.{small_program, contradiction, first_clauses}
use Rattle.decision_laws.proofs.Bridge.{part_tied}
use Rattle.decision_laws.proofs.ExampleLemmas.{contradiction_is_sentence, first_part, first_broken}
use Rattle.decision_laws.proofs.laws.clauses_on_demand_example.Goals as goal

pub returns-clause-part : goal.returns-clause-part
returns-clause-part c = first_part

pub returns-clause-tied : goal.returns-clause-tied
unfolding normal_form
returns-clause-tied c = part_tied small_program contradiction contradiction_is_sentence first_clauses first_part

pub returns-clause-model : goal.returns-clause-model
returns-clause-model c = refl

pub returns-clause-broken : goal.returns-clause-broken
returns-clause-broken c = first_broken

pub returns-clause-before : goal.returns-clause-before
returns-clause-before c = refl

pub returns-clause-after : goal.returns-clause-after
returns-clause-after c = refl
