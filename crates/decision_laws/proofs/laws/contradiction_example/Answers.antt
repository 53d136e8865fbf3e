use Rattle.std.proofs.Common.{refl}
use Rattle.decision_laws.specs.Example.{small_program, contradiction, contradiction_log}
use Rattle.decision_laws.specs.Laws.{clauses, name}
use Rattle.decision_laws.proofs.ExampleLemmas.{contradiction_is_sentence, contradiction_computed}
use Rattle.decision_laws.proofs.Bridge.{clauses_tied, refuted_networks}
use Rattle.fol_forms.specs.Forms.{normal_form}
use Rattle.decision_laws.proofs.laws.contradiction_example.Goals as goal

pub returns-clause-sentence : goal.returns-clause-sentence
returns-clause-sentence c = contradiction_is_sentence

pub returns-clause-clauses : goal.returns-clause-clauses
returns-clause-clauses c = contradiction_computed

pub returns-clause-refuted : goal.returns-clause-refuted
returns-clause-refuted c = refl

pub returns-clause-network : goal.returns-clause-network
unfolding normal_form
returns-clause-network c =
    refuted_networks small_program contradiction contradiction_is_sentence (clauses small_program contradiction) contradiction_log (name small_program contradiction, clauses_tied small_program contradiction contradiction_is_sentence) refl
