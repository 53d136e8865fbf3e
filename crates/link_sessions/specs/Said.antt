-- What a session over a link took, said and wrote, and why it ended.
use Rattle.std.specs.Prelude.{ℕ, ◌≡◌, ◌≢◌, ◌↔◌, ◌≤◌, ◌<◌, Bool, true, false, List, [], ◌++◌, length}
use Rattle.of10_wire.specs.declared.refusal.WireWhy.TheVariants as wire
use Rattle.of10_session.specs.declared.turn.Ask.{Ask}
use Rattle.of10_session.specs.Sessions.{spelled}
use Rattle.of10_speech.specs.declared.stops.SpeechStop.{SpeechStop}
use Rattle.of10_speech.specs.declared.stops.SpeechStop.TheVariants.{Goes, Waits, Ends}
use Rattle.of10_speech.specs.declared.stops.SpokenEnd.TheVariants as spoken
use Rattle.of10_speech.specs.Speeches.{Told, Speech, IsSpoken}
use Rattle.of10_speech.specs.Hearings.{TookFew}
use Rattle.vericon_edge.specs.Counts.{Rose}
use Rattle.link_sessions.specs.declared.ends.Ended.{Ended}
use Rattle.link_sessions.specs.declared.ends.SessionEnd.{SessionEnd}
use Rattle.link_sessions.specs.declared.ends.SessionEnd.TheVariants.{Closed, ReadFault, WriteFault, Wire, Incompatible, OutOfTurn, UnknownSwitch, HistoryFull, StreamFull, Memory}
use Rattle.link_sessions.specs.Links.{LinkView, Tells}

-- some of the declared asks may have no entry
abbrev pub cuts_entries : SessionEnd → Bool
cuts_entries WriteFault = true
cuts_entries HistoryFull = true
cuts_entries Memory = true
cuts_entries end = false

-- some of the answer may not be written, and some of the ignored messages not counted
abbrev pub cuts_bytes : SessionEnd → Bool
cuts_bytes WriteFault = true
cuts_bytes Memory = true
cuts_bytes end = false

-- Why a session ended so: where its answer stops, whether no further entry can come, how many bytes it may take and took, and the link before
-- and after.
abbrev pub IsCauseOf : SpeechStop → (full : Bool) → (most taken : ℕ) → (link link' : LinkView) → SessionEnd → Type 0
IsCauseOf stop full most taken link link' Closed = (stop ≡ Goes) × (taken < most)
IsCauseOf stop full most taken link link' ReadFault = (stop ≡ Goes) × (taken < most) × Rose link.read_faults link'.read_faults
IsCauseOf stop full most taken link link' WriteFault = Rose link.write_faults link'.write_faults
IsCauseOf stop full most taken link link' (Wire at why) = (stop ≡ Ends (spoken.Wire at why)) × (why ≢ wire.Memory)
IsCauseOf stop full most taken link link' Incompatible = stop ≡ Ends spoken.Incompatible
IsCauseOf stop full most taken link link' (OutOfTurn at) = stop ≡ Ends (spoken.OutOfTurn at)
IsCauseOf stop full most taken link link' (UnknownSwitch s) = stop ≡ Ends (spoken.UnknownSwitch s)
IsCauseOf stop full most taken link link' HistoryFull = (stop ≡ Waits) × (full ≡ true)
IsCauseOf stop full most taken link link' StreamFull = (stop ≡ Goes) × (taken ≡ most)
IsCauseOf stop full most taken link link' Memory = Unit {0}

-- what a link counts: it is closed where that ended the session, and only a fault of the end's kind was counted
pub record CountsEnd (link link' : LinkView) (end : SessionEnd) : Type 0 where
  pub closed : (link'.closed ≡ true) ↔ (end ≡ Closed)
  pub read_faults : end ≢ ReadFault → link'.read_faults ≡ link.read_faults
  pub write_faults : end ≢ WriteFault → link'.write_faults ≡ link.write_faults

-- ---- a session

-- A session with this number over a link that took at most so many bytes: its answer to the bytes that were taken, told so. What it
-- asked is what the answer asks, or a beginning of it; what was written is the answer's bytes, or a beginning.
pub record IsSaid (t : Told) (full : Bool) (number most : ℕ) (link link' : LinkView) (ended : Ended) : Type 0 where
  pub taken : List ℕ
  pub took : Tells link'.taken taken
  pub few : length taken ≤ most
  pub written : List ℕ
  pub wrote : Tells link'.written written
  pub answer : Speech
  pub spoken : IsSpoken t number taken answer
  pub asks_left : List Ask
  pub asks : answer.asks ≡ t.asks ++ asks_left
  pub entered : cuts_entries ended.end ≡ false → asks_left ≡ []
  pub bytes_left : List ℕ
  pub bytes : spelled answer.sent ≡ written ++ bytes_left
  pub whole : cuts_bytes ended.end ≡ false → bytes_left ≡ []
  pub ignored : ended.ignored ≤ answer.session.ignored
  pub counted : cuts_bytes ended.end ≡ false → ended.ignored ≡ answer.session.ignored
  pub cause : IsCauseOf answer.stop full most (length taken) link link' ended.end
  pub counts : CountsEnd link link' ended.end

-- .. which asked at most once for 16 bytes that were taken
abbrev pub IsSaidOver : (t : Told) (full : Bool) (number most left left' : ℕ) → (link link' : LinkView) → Ended → Type 0
IsSaidOver t full number most left left' link link' ended = (said : IsSaid t full number most link link' ended) × TookFew left left' (length said.taken)
