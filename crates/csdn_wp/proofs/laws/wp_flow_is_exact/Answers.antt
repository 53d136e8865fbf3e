use Rattle.csdn_wp.proofs.Flow.{flow_exact, flow_sorted, flow_breaks}
use Rattle.csdn_wp.proofs.laws.wp_flow_is_exact.Goals as goal

pub returns-clause-exact : goal.returns-clause-exact
returns-clause-exact c P N q sorted x = flow_exact P q sorted N x

pub returns-clause-sentence : goal.returns-clause-sentence
returns-clause-sentence c P q sorted = flow_sorted P q sorted

pub returns-clause-breaks : goal.returns-clause-breaks
returns-clause-breaks c P N q sorted x = flow_breaks P q sorted N x
