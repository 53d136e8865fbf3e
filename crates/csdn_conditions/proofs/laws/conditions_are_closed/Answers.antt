use Rattle.csdn_conditions.proofs.ClosedConditions.{members_closed}
use Rattle.csdn_conditions.proofs.laws.conditions_are_closed.Goals as goal

pub returns : goal.returns
returns c = λ P well n i asked there. members_closed P well n i asked there
