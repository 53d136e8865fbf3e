-- What the code keeps and looks at.
use Rattle.std.specs.Prelude.{ℕ}
use Rattle.csdn_core.specs.declared.event.Match.{Match}
use Rattle.csdn_core.specs.Network.{State}
use Rattle.net_structs.specs.Rows.{held}
use Rattle.csdn_step.specs.Drafts.{standing}
use Rattle.csdn_run.specs.declared.standing.Kept.{Kept as KeptStanding}
use Rattle.csdn_run.specs.declared.rules.Sight.{Sight}
use Rattle.csdn_run.specs.declared.rules.Sight.TheVariants.{Kept, Drafted}
use Rattle.csdn_run.specs.Marked.{mark_of}
use Rattle.csdn_run.specs.Standings.{Standing}

abbrev pub standing_of : KeptStanding → Standing
standing_of kept = record { state = held kept.state; marks = mark_of kept.marks; count = kept.count }

-- the state that is looked at
abbrev pub state_seen : Sight → State
state_seen (Kept state marks) = held state.now
state_seen (Drafted draft number) = standing draft.now

-- the marks that are looked at: of matches that are being changed, the number of the entry
abbrev pub marks_seen : Sight → Match → ℕ
marks_seen (Kept state marks) m = mark_of marks.now m
marks_seen (Drafted draft number) m = number
