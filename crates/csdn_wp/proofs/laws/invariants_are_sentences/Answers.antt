use Rattle.csdn_wp.proofs.Sentences.{sentence_in, quiet_in}
use Rattle.csdn_wp.proofs.laws.invariants_are_sentences.Goals as goal

pub returns-clause-any : goal.returns-clause-any
returns-clause-any c = sentence_in

pub returns-clause-quiet : goal.returns-clause-quiet
returns-clause-quiet c = quiet_in
