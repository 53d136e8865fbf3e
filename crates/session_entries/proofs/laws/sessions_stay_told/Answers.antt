use Rattle.session_entries.proofs.Staying.{history_told, nothing_told, others_told}
use Rattle.session_entries.proofs.laws.sessions_stay_told.Goals as goal

pub returns-clause-first : goal.returns-clause-first
returns-clause-first c = nothing_told

pub returns-clause-others : goal.returns-clause-others
returns-clause-others c = others_told

pub returns-clause-closed : goal.returns-clause-closed
returns-clause-closed c = history_told
