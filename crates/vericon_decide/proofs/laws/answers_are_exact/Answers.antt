use Rattle.vericon_decide.proofs.Exact.{no_network_exact, yes_exact, counter_exact, unknown_exact}
use Rattle.vericon_decide.proofs.laws.answers_are_exact.Goals as goal

pub returns-clause-no_network : goal.returns-clause-no_network
returns-clause-no_network c = no_network_exact

pub returns-clause-yes : goal.returns-clause-yes
returns-clause-yes c = λ P well size. yes_exact P size well

pub returns-clause-counter : goal.returns-clause-counter
returns-clause-counter c = λ P well size. counter_exact P size well

pub returns-clause-unknown : goal.returns-clause-unknown
returns-clause-unknown c = λ P well size. unknown_exact P size well
