use Rattle.shared_hall.proofs.Replied.{entered_told, turned_away_told, closed_told}
use Rattle.shared_hall.proofs.laws.seats_are_told.Goals as goal

pub returns-clause-entered : goal.returns-clause-entered
returns-clause-entered c = entered_told

pub returns-clause-turned_away : goal.returns-clause-turned_away
returns-clause-turned_away c = turned_away_told

pub returns-clause-closed : goal.returns-clause-closed
returns-clause-closed c = closed_told
