use Rattle.csdn_conditions.proofs.Inductive.{runs_end, ends_true, runs_break}
use Rattle.csdn_conditions.proofs.laws.after_events_are_exact.Goals as goal

pub returns-clause-exact : goal.returns-clause-exact
returns-clause-exact c P well N network k q closed x = (runs_end P well N network k q closed x, ends_true P well N network k q closed x)

pub returns-clause-breaks : goal.returns-clause-breaks
returns-clause-breaks c P well N network k q closed x = runs_break P well N network k q closed x
