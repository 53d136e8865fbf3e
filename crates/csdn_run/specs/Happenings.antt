-- The events that the entries of a history are.
use Rattle.std.specs.Prelude.{ℕ, ◌≡◌, ◌==◌, ◌&&◌, if◌then◌else◌, List, [], ◌∷◌, ◌++◌}
use Rattle.csdn_core.specs.declared.event.Event.{Event}
use Rattle.csdn_core.specs.declared.event.Event.TheVariants.{PktIn, Expire as Expiring}
use Rattle.csdn_core.specs.declared.program.Parts.{Parts}
use Rattle.csdn_core.specs.Network.{Network, State}
use Rattle.csdn_core.specs.Run.{Run, empty_state}
use Rattle.csdn_history.specs.declared.entry.Entry.{Entry}
use Rattle.csdn_history.specs.declared.entry.Entry.TheVariants.{Join, Packet, Expire}
use Rattle.csdn_step.specs.Answers.{is_enabled}
use Rattle.csdn_step.specs.Courses.{with_sent_of}
use Rattle.csdn_run.specs.Standings.{Standing, is_declared, taken}

-- a packet comes in, or the rules of a match end, where the entry's cookie is the match's mark and there are rules; a join is
-- no event
abbrev pub event_of : Parts → Network → Standing → Entry → List Event
event_of P N w (Join seat session s) = []
event_of P N w (Packet seat session s a b i) = PktIn s a b i ∷ []
event_of P N w (Expire seat session s a b i cookie) =
    if w.marks (record { s = s; a = a; b = b; i = i }) == cookie then (if is_enabled P N w.state (Expiring s a b i) then Expiring s a b i ∷ [] else []) else []

-- the events of entries, one after another; those that aren't declared are none
abbrev pub events : Parts → Network → Standing → List Entry → List Event
events P N w [] = []
events P N w (entry ∷ entries) = (if is_declared P N entry then event_of P N w entry else []) ++ events P N (taken P N w entry) entries

-- the state, `sent` left out
abbrev pub without_sent : State → State
without_sent x = with_sent_of empty_state x

-- these events lead from one state to another, of which `sent` is left out
pub record IsRunTo (P : Parts) (N : Network) (x : State) (happened : List Event) (now : State) : Type 0 where
  pub last : State
  pub run : Run P N x happened last
  pub state : now ≡ without_sent last
