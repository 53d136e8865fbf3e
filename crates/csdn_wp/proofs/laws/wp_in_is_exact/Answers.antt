use Rattle.csdn_wp.proofs.Programs.{in_exact, in_breaks}
use Rattle.csdn_wp.proofs.Sentences.{in_sorted}
use Rattle.csdn_wp.proofs.laws.wp_in_is_exact.Goals as goal

pub returns-clause-exact : goal.returns-clause-exact
returns-clause-exact c = in_exact

pub returns-clause-sentence : goal.returns-clause-sentence
returns-clause-sentence c = in_sorted

pub returns-clause-breaks : goal.returns-clause-breaks
returns-clause-breaks c = in_breaks
