use Rattle.csdn_wp.proofs.Expiry.{expire_exact, expire_breaks, expire_sorted}
use Rattle.csdn_wp.proofs.laws.wp_expire_is_exact.Goals as goal

pub returns-clause-exact : goal.returns-clause-exact
returns-clause-exact c P N q sorted timed x = expire_exact P q sorted N x timed

pub returns-clause-breaks : goal.returns-clause-breaks
returns-clause-breaks c P N q sorted timed x = expire_breaks P q sorted N x timed

pub returns-clause-sentence : goal.returns-clause-sentence
returns-clause-sentence c = expire_sorted
