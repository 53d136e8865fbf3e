-- A session over a link on the way.
use Rattle.std.specs.Prelude.{ℕ, ◌≡◌, ◌+◌, ◌*◌, ◌≤◌, Bool, List, [], ◌++◌, length, Option, Result, Ok, Err}
use Rattle.of10_stream.specs.Framings.{Framing}
use Rattle.of10_session.specs.Progresses.{Progress}
use Rattle.of10_session.specs.Sessions.{spelled}
use Rattle.of10_speech.specs.declared.stops.Broken.{Broken}
use Rattle.of10_speech.specs.declared.stops.Broken.TheVariants.{Full, Memory}
use Rattle.of10_speech.specs.declared.stops.SpeechStop.{SpeechStop}
use Rattle.of10_speech.specs.declared.stops.SpeechStop.TheVariants.{Goes, Waits, Ends}
use Rattle.of10_speech.specs.declared.stops.SpokenEnd.{SpokenEnd}
use Rattle.of10_speech.specs.declared.stops.SpokenEnd.TheVariants as spoken
use Rattle.of10_speech.specs.Speeches.{Told, Speech, IsSpoken}
use Rattle.of10_speech.specs.Hearings.{Following, IsAnswer, Awaits, HasAsked}
use Rattle.link_sessions.specs.declared.ends.SessionEnd.{SessionEnd}
use Rattle.link_sessions.specs.declared.ends.SessionEnd.TheVariants.{Wire, Incompatible, OutOfTurn, UnknownSwitch, HistoryFull}
use Rattle.link_sessions.specs.declared.ends.SessionEnd.TheVariants as no_memory
use Rattle.link_sessions.specs.declared.ends.Ended.{Ended}
use Rattle.link_sessions.specs.Links.{LinkView, Tells}
use Rattle.link_sessions.specs.Said.{IsSaid}

-- the end of a session by what it was told
abbrev pub end_of : SpokenEnd → SessionEnd
end_of spoken.Incompatible = Incompatible
end_of (spoken.OutOfTurn at) = OutOfTurn at
end_of (spoken.UnknownSwitch s) = UnknownSwitch s
end_of (spoken.Wire at why) = Wire at why

-- .. or by what came of a piece
abbrev pub IsEndOf : Result SpeechStop Broken → SessionEnd → Type 0
IsEndOf (Ok Goes) end = ⊥
IsEndOf (Ok Waits) end = end ≡ HistoryFull
IsEndOf (Ok (Ends e)) end = end ≡ end_of e
IsEndOf (Err Full) end = end ≡ HistoryFull
IsEndOf (Err Memory) end = end ≡ no_memory.Memory

-- what was asked, written and counted is a beginning of an answer
pub record IsCut (t : Told) (y : Speech) (now : List ℕ) (few : ℕ) : Type 0 where
  pub asked : HasAsked t y
  pub left : List ℕ
  pub written : spelled y.sent ≡ now ++ left
  pub ignored : few ≤ y.session.ignored

-- .. of the answer to these bytes
abbrev pub CutOff : (t : Told) (number : ℕ) (bytes now : List ℕ) (few : ℕ) → Type 0
CutOff t number bytes now few = (y : Speech) → IsSpoken t number bytes y → IsCut t y now few

-- how a session stands when the last of these bytes was heard, or it stopped or broke off, and this was said
abbrev pub AfterPiece : (t : Told) (number : ℕ) (bytes : List ℕ) → Framing → Progress → List ℕ → Result SpeechStop Broken → Type 0
AfterPiece t number bytes f s now (Ok Goes) = Following t number bytes (length bytes) f s [] now
AfterPiece t number bytes f s now (Ok Waits) = IsAnswer t number bytes [] now (record { stop = Waits; ignored = s.ignored })
AfterPiece t number bytes f s now (Ok (Ends e)) = IsAnswer t number bytes [] now (record { stop = Ends e; ignored = s.ignored })
AfterPiece t number bytes f s now (Err Full) = Awaits t number bytes [] now s.ignored
AfterPiece t number bytes f s now (Err Memory) = CutOff t number bytes now s.ignored

-- a piece was heard, and this was said
abbrev pub HearsPiece : (o t : Told) → Framing → Progress → List ℕ → Framing → Progress → List ℕ → Result SpeechStop Broken → Type 0
HearsPiece o t f s piece g s' said result =
    (number : ℕ) (bytes now : List ℕ) → Following o number bytes (length bytes) f s [] now → AfterPiece t number (bytes ++ piece) g s' (now ++ said) result

-- so many bytes of a piece were heard, and this was said
abbrev pub HearsSome : (o t : Told) → Framing → Progress → (piece : List ℕ) → ℕ → Framing → Progress → List ℕ → Type 0
HearsSome o t f s piece at g s' said =
    (number : ℕ) (bytes now : List ℕ) → Following o number bytes (length bytes) f s [] now → Following t number (bytes ++ piece) (length bytes + at) g s' [] (now ++ said)

-- a session stands so after some bytes
pub record StandsSomewhere (t : Told) (f : Framing) (s : Progress) : Type 0 where
  pub number : ℕ
  pub bytes : List ℕ
  pub now : List ℕ
  pub follows : Following t number bytes (length bytes) f s [] now

-- .. after those that its link tells, and all that it said was written
pub record Stands (t : Told) (number : ℕ) (f : Framing) (s : Progress) (count : ℕ) (taken written : Option (List ℕ)) : Type 0 where
  pub bytes : List ℕ
  pub took : Tells taken bytes
  pub counted : length bytes ≡ count
  pub now : List ℕ
  pub wrote : Tells written now
  pub follows : Following t number bytes (length bytes) f s [] now

-- .. and this piece was taken from its link since
pub record HasTaken (t : Told) (number : ℕ) (f : Framing) (s : Progress) (count : ℕ) (piece : List ℕ) (taken written : Option (List ℕ)) : Type 0 where
  pub bytes : List ℕ
  pub took : Tells taken (bytes ++ piece)
  pub counted : length bytes ≡ count
  pub now : List ℕ
  pub wrote : Tells written now
  pub follows : Following t number bytes (length bytes) f s [] now

-- A session ended so. What could ask so often and so much (16 for each ask left, and the bytes of all messages that were heard) has asked
-- at most once for 16 bytes.
abbrev pub IsOver : (t : Told) (full : Bool) (number most reach left : ℕ) → (link link' : LinkView) → Ended → Type 0
IsOver t full number most reach left link link' ended = (said : IsSaid t full number most link link' ended) × (reach ≤ 16 * left + length said.taken)

-- .. when it took so many bytes, whatever more it may take
abbrev pub IsOverAt : (t : Told) (full : Bool) (number count reach left : ℕ) → (link link' : LinkView) → Ended → Type 0
IsOverAt t full number count reach left link link' ended = (most : ℕ) → count ≤ most → IsOver t full number most reach left link link' ended
