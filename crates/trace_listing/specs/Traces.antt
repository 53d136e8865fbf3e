-- What is printed of a journal whose notes happen, one after another.
use Rattle.std.specs.Prelude.{◌≡◌, ℕ, ◌+◌, ◌==◌, Bool, true, false, ◌&&◌, if◌then◌else◌, List, [], ◌∷◌, ◌++◌, Option, Some, None, is_none, codes, decimal}
use Rattle.std.specs.Option.{option_or}
use Rattle.std.specs.List.Sorted.{IsStrictlySortedBy}
use Rattle.csdn_core.specs.declared.event.Event.{Event}
use Rattle.csdn_core.specs.declared.event.Event.TheVariants.{PktIn, PktFlow, Expire as Expiring}
use Rattle.csdn_core.specs.declared.event.Match.{Match}
use Rattle.csdn_core.specs.declared.event.Packet.{Packet}
use Rattle.csdn_core.specs.declared.event.Packet.TheVariants.{Nothing, At}
use Rattle.csdn_core.specs.declared.program.Parts.{Parts}
use Rattle.csdn_core.specs.Network.{Network, State, structure}
use Rattle.csdn_core.specs.Run.{initial}
use Rattle.net_structs.specs.declared.row.Row.{Row}
use Rattle.net_structs.specs.declared.case.Case.{Case}
use Rattle.net_structs.specs.Rows.{held, row_cmp}
use Rattle.csdn_history.specs.declared.entry.Entry.{Entry}
use Rattle.csdn_history.specs.declared.entry.Entry.TheVariants.{Join, Packet as PacketIn, Expire}
use Rattle.csdn_step.specs.declared.setting.Sending.TheVariants.{Kept as WithSent}
use Rattle.csdn_step.specs.Answers.{is_of_network, is_enabled}
use Rattle.csdn_step.specs.Courses.{Course, fired, from_state}
use Rattle.csdn_run.specs.Marked.{mark_of}
use Rattle.csdn_run.specs.Standings.{Standing, is_declared, ended, marked}
use Rattle.net_text.specs.NetText.{net_text}
use Rattle.net_listing.specs.Falses.{first_false}
use Rattle.journal_text.specs.declared.note.Note.{Note}
use Rattle.journal_text.specs.declared.note.Note.TheVariants.{Kept, Flow}
use Rattle.trace_listing.specs.declared.progress.Progress.{Progress}
use Rattle.trace_listing.specs.declared.progress.Refusal.{Refusal}
use Rattle.trace_listing.specs.declared.progress.Refusal.TheVariants.{Stranger, NotEnabled}
use Rattle.trace_listing.specs.declared.progress.Taken.{Taken}
use Rattle.trace_listing.specs.declared.progress.Taken.TheVariants.{Refused, Happened}
use Rattle.trace_listing.specs.declared.trace.Ending.{Ending}
use Rattle.trace_listing.specs.declared.trace.Ending.TheVariants.{Unbroken, Broken, Stopped}

-- ---- one note

-- before the first note: no entry was taken, and no match has a mark
abbrev pub opening_at : State → Standing
opening_at x = record { state = x; marks = λ m. 0; count = 0 }

abbrev pub match_of : (s a b i : ℕ) → Match
match_of s a b i = record { s = s; a = a; b = b; i = i }

-- whether flow rules of a match end: the cookie is the mark of the match, and there are some
abbrev pub acts : Parts → Network → Standing → Match → ℕ → Bool
acts P N w m cookie = (w.marks m == cookie) && is_enabled P N w.state (Expiring m.s m.a m.b m.i)

-- why an event can't happen, where it can't
abbrev pub event_refusal : Parts → Network → State → Event → Option Refusal
event_refusal P N x event = if is_of_network N event then (if is_enabled P N x event then None else Some NotEnabled) else Some Stranger

-- .. and a note: an entry must be declared
unfoldable pub refusal_of : Parts → Network → Standing → Note → Option Refusal
refusal_of P N w (Kept entry) = if is_declared P N entry then None else Some Stranger
refusal_of P N w (Flow s a b i o) = event_refusal P N w.state (PktFlow s a b i o)

-- the state after an event, with the least element at each `pick`
abbrev pub after_event : Parts → Network → State → Event → State
after_event P N x event = (fired P N WithSent event (from_state x)).state

-- what an entry does, what is sent with it: a join nothing, and an end of rules only where it acts
abbrev pub done : Parts → Network → Standing → Entry → Course
done P N w (Join seat session s) = from_state w.state
done P N w (PacketIn seat session s a b i) = fired P N WithSent (PktIn s a b i) (from_state w.state)
done P N w (Expire seat session s a b i cookie) = ended P N w (match_of s a b i) cookie

-- after a note; the matches that an entry changed get its number as their mark
unfoldable pub after : Parts → Network → Standing → Note → Standing
after P N w (Kept entry) = marked w (done P N w entry)
after P N w (Flow s a b i o) = record { state = after_event P N w.state (PktFlow s a b i o); marks = w.marks; count = w.count }

-- the packet of which transition invariants speak after an entry, where they are looked at
abbrev pub packet_of : Parts → Network → Standing → Entry → Option Packet
packet_of P N w (Join seat session s) = None
packet_of P N w (PacketIn seat session s a b i) = Some (At s a b i)
packet_of P N w (Expire seat session s a b i cookie) = if acts P N w (match_of s a b i) cookie then Some Nothing else None

-- .. and after a note
unfoldable pub looked_at : Parts → Network → Standing → Note → Option Packet
looked_at P N w (Kept entry) = packet_of P N w entry
looked_at P N w (Flow s a b i o) = Some (At s a b i)

-- the name of the first transition invariant that is false, where they are looked at
abbrev pub first_false_transition : Parts → Network → State → Option Packet → Option (List ℕ)
first_false_transition P N x None = None
first_false_transition P N x (Some packet) = first_false (structure P N x packet) P.trans

-- the name of the first invariant that is false: of a safety invariant, and else of a transition invariant
unfoldable pub first_broken : Parts → Network → State → Option Packet → Option (List ℕ)
first_broken P N x packet = option_or (first_false (structure P N x Nothing) P.safety) (first_false_transition P N x packet)

-- ---- all notes

-- `J broken NAME`
abbrev pub broken_text : ℕ → List ℕ → List ℕ
broken_text j name = decimal j ++ codes " broken " ++ name ++ codes "\n"

-- `J ok`, or the name of an invariant that is false
abbrev pub note_text : ℕ → Option (List ℕ) → List ℕ
note_text j None = decimal j ++ codes " ok\n"
note_text j (Some name) = broken_text j name

abbrev pub words_of : Refusal → List ℕ
words_of Stranger = codes "stranger"
words_of NotEnabled = codes "not enabled"

-- `entry J: WHY`
abbrev pub refused_text : ℕ → Refusal → List ℕ
refused_text j why = codes "entry " ++ decimal j ++ codes ": " ++ words_of why ++ codes "\n"

pub record Traced : Type 0 where
  -- the lines of the notes
  pub text : List ℕ
  -- no invariant was false after a note
  pub unbroken : Bool
  -- the state at the end, unless a note was refused
  pub last : Option State

-- a note that was refused ends the trace
abbrev pub unless_refused : ℕ → Option Refusal → Traced → Traced
unless_refused j None later = later
unless_refused j (Some why) later = record { text = refused_text j why; unbroken = true; last = None }

-- a note that happened, and what comes later
abbrev pub with_note : ℕ → Option (List ℕ) → Traced → Traced
with_note j broken later = record { text = note_text j broken ++ later.text; unbroken = is_none broken && later.unbroken; last = later.last }

-- notes that happen one after another, the first with the number j
abbrev pub traced : Parts → Network → ℕ → Standing → List Note → Traced
traced P N j w [] = record { text = []; unbroken = true; last = Some w.state }
traced P N j w (note ∷ notes) =
    let z = after P N w note in
    unless_refused j (refusal_of P N w note) (with_note j (first_broken P N z.state (looked_at P N w note)) (traced P N (j + 1) z notes))

abbrev pub is_stopped : Ending → Bool
is_stopped Unbroken = false
is_stopped Broken = false
is_stopped Stopped = true

-- how a trace ended, and its last state
abbrev pub IsEnding : Traced → Ending → State → Type 0
IsEnding t Unbroken y = (t.last ≡ Some y) × (t.unbroken ≡ true)
IsEnding t Broken y = (t.last ≡ Some y) × (t.unbroken ≡ false)
IsEnding t Stopped y = t.last ≡ None

-- the event of an entry; a join is none, and an end of rules that doesn't act
abbrev pub event_of : Parts → Network → Standing → Entry → List Event
event_of P N w (Join seat session s) = []
event_of P N w (PacketIn seat session s a b i) = PktIn s a b i ∷ []
event_of P N w (Expire seat session s a b i cookie) = if acts P N w (match_of s a b i) cookie then Expiring s a b i ∷ [] else []

-- the events of the notes
abbrev pub events_of : Parts → Network → Standing → List Note → List Event
events_of P N w [] = []
events_of P N w (Kept entry ∷ notes) = event_of P N w entry ++ events_of P N (after P N w (Kept entry)) notes
events_of P N w (Flow s a b i o ∷ notes) = PktFlow s a b i o ∷ events_of P N (after P N w (Flow s a b i o)) notes

-- the state of a case, or the initial one
abbrev pub start_of : Parts → Network → Option (List Row) → State
start_of P N None = initial P N
start_of P N (Some rows) = held rows

-- the case that is printed at the end
abbrev pub last_case : Network → List Row → Case
last_case N rows = record { network = N; state = Some rows; packet = Nothing }

-- The text of a trace from a state, and its ending: the lines of the notes, and then the case of the last state, with its tuples rising; or a note was refused.
pub data IsTrace (P : Parts) (N : Network) (x : State) (notes : List Note) (text : List ℕ) (ending : Ending) : Type 0 where
  has_last : (rows : List Row) → IsStrictlySortedBy row_cmp rows → IsEnding (traced P N 1 (opening_at x) notes) ending (held rows) → text ≡ (traced P N 1 (opening_at x) notes).text ++ net_text P (last_case N rows)
      → is_stopped ending ≡ false → IsTrace P N x notes text ending
  was_stopped : (traced P N 1 (opening_at x) notes).last ≡ None → text ≡ (traced P N 1 (opening_at x) notes).text → ending ≡ Stopped → IsTrace P N x notes text ending

-- ---- what the code keeps and answers

-- what the notes so far have led to
abbrev pub standing_of : Progress → Standing
standing_of progress = record { state = held progress.state; marks = mark_of progress.marks; count = progress.count }

-- a note is refused, or it happened
abbrev pub IsTaken : Parts → Network → Standing → Note → Taken → Standing → Type 0
IsTaken P N w note (Refused why) z = refusal_of P N w note ≡ Some why
IsTaken P N w note (Happened packet) z = (refusal_of P N w note ≡ None) × (packet ≡ looked_at P N w note) × (z ≡ after P N w note)
