use Rattle.csdn_wp.proofs.Preceding.{is_precondition, breaks_before}
use Rattle.csdn_wp.proofs.laws.wp_is_exact.Goals as goal

pub returns-clause-exact : goal.returns-clause-exact
returns-clause-exact c = is_precondition

pub returns-clause-breaks : goal.returns-clause-breaks
returns-clause-breaks c = breaks_before
