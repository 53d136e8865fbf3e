-- What a run leaves: in its sink, and of its listener.
use Rattle.std.specs.Prelude.{◌≡◌, ℕ, ◌≤◌, Bool, true, false, if◌then◌else◌, List, [], ◌++◌, Option, Some, None}
use Rattle.csdn_history.specs.declared.entry.Entry.{Entry}
use Rattle.csdn_run.specs.Histories.{Running, with_history}
use Rattle.vericon_edge.specs.Counts.{Rose}
use Rattle.vericon_edge.specs.Written.{Grown, GrownByFront}
use Rattle.link_sessions.specs.Links.{LinkView}
use Rattle.session_workers.specs.declared.row.Row.{Row}
use Rattle.session_workers.specs.declared.terms.Terms.{Terms}
use Rattle.session_workers.specs.declared.halt.Halt.{Halt}
use Rattle.session_workers.specs.declared.halt.Halt.TheVariants.{Done, Fault, Memory}
use Rattle.session_workers.specs.Endings.{HaltsFor, IsRunOf}
use Rattle.run_listing.specs.Lines.{run_text}

-- ---- what is printed

abbrev pub is_fault : Halt → Bool
is_fault Done = false
is_fault Fault = true
is_fault Memory = false

-- the status where all is printed
abbrev pub status_of : Halt → ℕ
status_of Done = 0
status_of Fault = 9
status_of Memory = 7

-- Of a text and its status, the bytes written before and after, the count of the sink's faults before and after, and the status: the text
-- was written, or nothing for want of memory, or a front of it and then the sink failed.
pub data Prints (text : List ℕ) (given : ℕ) (old new : Option (List ℕ)) (before after status : ℕ) : Type 0 where
  all : status ≡ given → Grown old new text → after ≡ before → Prints text given old new before after status
  none : status ≡ 7 → new ≡ old → after ≡ before → Prints text given old new before after status
  front : status ≡ 8 → GrownByFront old new text → Rose before after → Prints text given old new before after status

-- .. or a front of it was written, for want of memory
pub data HasSaid (text : List ℕ) (given : ℕ) (old new : Option (List ℕ)) (before after status : ℕ) : Type 0 where
  whole : status ≡ given → Grown old new text → after ≡ before → HasSaid text given old new before after status
  short : status ≡ 7 → GrownByFront old new text → after ≡ before → HasSaid text given old new before after status
  cut : status ≡ 8 → GrownByFront old new text → Rose before after → HasSaid text given old new before after status

-- at least this text was written
pub record HasBegun (first : List ℕ) (old new : Option (List ℕ)) : Type 0 where
  pub rest : List ℕ
  pub written : Grown old new (first ++ rest)

-- all that is printed of an accepted program: what comes first, the sessions and the journal, and whether the listener failed
abbrev pub accepted_text : List ℕ → List Row → List Entry → Bool → List ℕ
accepted_text first rows history is_faulted = first ++ run_text rows history is_faulted

abbrev pub accepted_status : Bool → ℕ
accepted_status is_faulted = if is_faulted then 9 else 0

-- ---- what was served

-- What a listener tells: the links given back, the counts of faults, of links that came and of those given back, and whether no more come.
pub record ListenerView : Type 0 where
  pub given : Option (List (ℕ × LinkView))
  pub faults : ℕ
  pub came : ℕ
  pub back : ℕ
  pub ended : Bool

abbrev pub listener_view : {L : Type 0} → (L → Option (List (ℕ × LinkView))) → (faults came back : L → ℕ) → (L → Bool) → L → ListenerView
listener_view given faults came back ended l = record { given = given l; faults = faults l; came = came l; back = back l; ended = ended l }

-- Sessions were served along one history, and the listener was handed back with their links.
pub record HasServed (t : Terms) (r : Running) (history : List Entry) (rows : List Row) (halt : Halt) (l l' : ListenerView) : Type 0 where
  pub run : IsRunOf t r history rows l.given l'.given l'.came
  pub back : l'.back ≡ l'.came
  pub most : l'.came ≤ t.sessions
  pub halts : HaltsFor t halt l.faults l'.faults l'.came l'.ended
  pub later : l.faults ≤ l'.faults

-- the history of a runtime, and no entries where there is none
abbrev pub history_in : Option Running → List Entry
history_in None = []
history_in (Some r) = r.history

-- the runtime that is handed back is this one, with its history
abbrev pub IsOf : Running → Option Running → Type 0
IsOf r None = ⊥
IsOf r (Some back) = back ≡ with_history r back.history

-- .. and were printed with it, behind what was printed before.
pub record HasPrinted (t : Terms) (r : Running) (history : List Entry) (l l' : ListenerView) (old new : Option (List ℕ)) (before after status : ℕ) : Type 0 where
  pub rows : List Row
  pub halt : Halt
  pub served : HasServed t r history rows halt l l'
  pub prints : Prints (run_text rows history (is_fault halt)) (status_of halt) old new before after status

-- .. and were printed with it, behind what is printed first. The statuses 0 and 9 have their causes.
pub record HasRun (t : Terms) (first : List ℕ) (r : Running) (history : List Entry) (l l' : ListenerView) (old new : Option (List ℕ)) (before after status : ℕ) : Type 0 where
  pub rows : List Row
  pub halt : Halt
  pub served : HasServed t r history rows halt l l'
  pub said : HasSaid (accepted_text first rows history (is_fault halt)) (accepted_status (is_fault halt)) old new before after status
  pub done : status ≡ 0 → halt ≡ Done
  pub faulted : status ≡ 9 → halt ≡ Fault
