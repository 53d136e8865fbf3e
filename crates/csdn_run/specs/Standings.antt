-- What the entries of a history do.
use Rattle.std.specs.Prelude.{ℕ, ◌+◌, ◌==◌, Bool, ◌&&◌, if◌then◌else◌, List, fold, is_some}
use Rattle.std.specs.List.{list_any}
use Rattle.csdn_core.specs.declared.event.Event.TheVariants.{PktIn, Expire as Expiring}
use Rattle.csdn_core.specs.declared.event.Match.{Match}
use Rattle.csdn_core.specs.declared.program.Parts.{Parts}
use Rattle.csdn_core.specs.Network.{Network, State}
use Rattle.csdn_core.specs.Run.{initial}
use Rattle.net_structs.specs.Networks.{has}
use Rattle.csdn_history.specs.declared.entry.Entry.{Entry}
use Rattle.csdn_history.specs.declared.entry.Entry.TheVariants.{Join, Packet, Expire}
use Rattle.csdn_step.specs.declared.setting.Sending.TheVariants.{Kept}
use Rattle.csdn_step.specs.Answers.{is_enabled}
use Rattle.csdn_step.specs.Courses.{Course, same_match, fired, from_state, quieted}

-- what the entries of a history have led to
pub record Standing : Type 0 where
  -- `sent` left out
  pub state : State
  -- of each match, the number of the entry that changed its outputs last; 0 where none did
  pub marks : Match → ℕ
  -- how many entries were taken
  pub count : ℕ

abbrev pub is_packet_of : Network → (s a b i : ℕ) → Bool
is_packet_of N s a b i = has N.switches s && (has N.hosts a && (has N.hosts b && has N.ports i))

-- the network has the elements of an entry, and rules end in the program, where the entry says that one ended
abbrev pub is_declared : Parts → Network → Entry → Bool
is_declared P N (Join seat session s) = has N.switches s
is_declared P N (Packet seat session s a b i) = is_packet_of N s a b i
is_declared P N (Expire seat session s a b i cookie) = is_packet_of N s a b i && is_some P.timeout

-- these matches get another mark
abbrev pub with_marks : (Match → ℕ) → List Match → ℕ → Match → ℕ
with_marks marks ms n m = if list_any (same_match m) ms then n else marks m

-- the flow rules of a match end, where there are any
abbrev pub ended_now : Parts → Network → State → Match → Course
ended_now P N x m = if is_enabled P N x (Expiring m.s m.a m.b m.i) then fired P N Kept (Expiring m.s m.a m.b m.i) (from_state x) else from_state x

-- .. but nothing is done where the cookie isn't the match's mark
abbrev pub ended : Parts → Network → Standing → Match → ℕ → Course
ended P N w m cookie = if w.marks m == cookie then ended_now P N w.state m else from_state w.state

-- what is done by an entry, with the least element at each `pick`: by a join nothing
abbrev pub done : Parts → Network → Standing → Entry → Course
done P N w (Join seat session s) = from_state w.state
done P N w (Packet seat session s a b i) = quieted w.state (fired P N Kept (PktIn s a b i) (from_state w.state))
done P N w (Expire seat session s a b i cookie) = ended P N w (record { s = s; a = a; b = b; i = i }) cookie

-- the matches that were changed get the number of the entry as their mark
abbrev pub marked : Standing → Course → Standing
marked w course = record { state = course.state; marks = with_marks w.marks course.changed (w.count + 1); count = w.count + 1 }

-- after one entry more, which is declared
unfoldable pub entered : Parts → Network → Standing → Entry → Standing
entered P N w entry = marked w (done P N w entry)

-- entries that aren't declared have no number, and do nothing
abbrev pub taken : Parts → Network → Standing → Entry → Standing
taken P N w entry = if is_declared P N entry then entered P N w entry else w

-- before the first entry
abbrev pub opening : Parts → Network → Standing
opening P N = record { state = initial P N; marks = λ m. 0; count = 0 }

-- after the entries of a history, in their order
abbrev pub after : Parts → Network → List Entry → Standing
after P N entries = fold (taken P N) (opening P N) entries
