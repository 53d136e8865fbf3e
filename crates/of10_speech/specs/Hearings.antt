-- What the steps of a loop do that hears a stream piece by piece.
use Rattle.std.specs.Prelude.{ℕ, ◌≡◌, ◌⊎◌, ◌+◌, ◌*◌, ◌≤◌, ◌<◌, List, [], ◌++◌, length, take}
use Rattle.of10_wire.specs.declared.refusal.WireRefusal.{WireRefusal}
use Rattle.of10_msgs.specs.declared.message.Message.{Message}
use Rattle.of10_msgs.specs.Messages.{spells}
use Rattle.of10_msgs.specs.Refused.{Refuses}
use Rattle.of10_stream.specs.declared.tail.Tail.TheVariants.{Broken}
use Rattle.of10_stream.specs.Framings.{Framing, framing, IsFrame, IsOpen}
use Rattle.of10_stream.specs.Streams.{IsRead, IsTail}
use Rattle.of10_session.specs.declared.turn.Ask.{Ask}
use Rattle.of10_session.specs.Progresses.{Progress, IsListening}
use Rattle.of10_session.specs.Sessions.{spelled}
use Rattle.of10_speech.specs.declared.hearing.Hearing.{Hearing}
use Rattle.of10_speech.specs.declared.speaking.Spoken.{Spoken}
use Rattle.of10_speech.specs.declared.stops.Broken.{Broken as Break}
use Rattle.of10_speech.specs.declared.stops.Broken.TheVariants.{Full, Memory}
use Rattle.of10_speech.specs.declared.stops.SpeechStop.{SpeechStop}
use Rattle.of10_speech.specs.declared.stops.SpeechStop.TheVariants.{Goes, Waits, Ends}
use Rattle.of10_speech.specs.declared.stops.SpokenEnd.TheVariants.{Wire}
use Rattle.of10_speech.specs.Speeches.{Told, Said, said_to, Speech, speech, IsSpoken}

-- the end by bytes that are no message, which begin at this place
abbrev pub is_ended : ℕ → WireRefusal → SpeechStop
is_ended start e = Ends (Wire (start + e.at) e.why)

-- a call said this, and appended what is sent
pub record Says (y : Said) (stop : SpeechStop) (session : Progress) (before after : List ℕ) : Type 0 where
  pub stops : stop ≡ y.stop
  pub goes_on : session ≡ y.session
  pub bytes : after ≡ before ++ spelled y.sent

-- ---- one step, from what was told before it to what is told then

-- the frame that was ready is a message, and was heard
pub record HeardFrame (o t : Told) (f : Framing) (s : Progress) (g : Framing) (s' : Progress) (stop : SpeechStop) (before after : List ℕ) : Type 0 where
  pub message : Message
  pub spelled_as : spells message f.held
  pub says : Says (said_to t f.start (length o.replies) s message) stop s' before after
  pub held : g ≡ framing (f.start + length f.held) []
  pub counts : stop ≡ Goes → length t.replies ≡ length o.replies + length (said_to t f.start (length o.replies) s message).asks
  pub asked : t.asks ≡ o.asks ++ (said_to t f.start (length o.replies) s message).asks

-- .. or it is none
pub record RefusedFrame (o t : Told) (f : Framing) (s s' : Progress) (stop : SpeechStop) (before after : List ℕ) : Type 0 where
  pub refusal : WireRefusal
  pub refused : Refuses f.held refusal
  pub stops : stop ≡ is_ended f.start refusal
  pub session : s' ≡ s
  pub bytes : after ≡ before
  pub asked : t.asks ≡ o.asks

abbrev pub HearsFrame : (o t : Told) → Framing → Progress → Framing → Progress → SpeechStop → (before after : List ℕ) → Type 0
HearsFrame o t f s g s' stop before after = HeardFrame o t f s g s' stop before after ⊎ RefusedFrame o t f s s' stop before after

-- all of the piece was taken, and no frame is whole
pub record TookAll (o t : Told) (f : Framing) (s : Progress) (piece : List ℕ) (g : Framing) (s' : Progress) (r : Hearing) (before after : List ℕ) : Type 0 where
  pub used : r.used ≡ length piece
  pub counts : length t.replies ≡ length o.replies
  pub asked : t.asks ≡ o.asks
  pub held : g ≡ framing f.start (f.held ++ piece)
  pub framer : IsOpen g
  pub session : s' ≡ s
  pub goes : r.stop ≡ Goes
  pub bytes : after ≡ before

-- a message became whole, and was heard
pub record TookMessage (o t : Told) (f : Framing) (s : Progress) (piece : List ℕ) (g : Framing) (s' : Progress) (r : Hearing) (before after : List ℕ) : Type 0 where
  pub used : r.used ≤ length piece
  pub some : 0 < r.used
  pub message : Message
  pub frame : IsFrame (f.held ++ take r.used piece)
  pub spelled_as : spells message (f.held ++ take r.used piece)
  pub says : Says (said_to t f.start (length o.replies) s message) r.stop s' before after
  pub held : g ≡ framing (f.start + length (f.held ++ take r.used piece)) []
  pub counts : r.stop ≡ Goes → length t.replies ≡ length o.replies + length (said_to t f.start (length o.replies) s message).asks
  pub asked : t.asks ≡ o.asks ++ (said_to t f.start (length o.replies) s message).asks

-- what comes next is refused
pub record TookRefusal (o t : Told) (f : Framing) (s : Progress) (piece : List ℕ) (s' : Progress) (r : Hearing) (before after : List ℕ) : Type 0 where
  pub used : r.used ≤ length piece
  pub e : WireRefusal
  pub next : IsTail (f.held ++ piece) (Broken e)
  pub stop : r.stop ≡ is_ended f.start e
  pub session : s' ≡ s
  pub bytes : after ≡ before
  pub asked : t.asks ≡ o.asks

abbrev pub Hears : (o t : Told) → Framing → Progress → List ℕ → Framing → Progress → Hearing → (before after : List ℕ) → Type 0
Hears o t f s piece g s' r before after = TookAll o t f s piece g s' r before after ⊎ (TookMessage o t f s piece g s' r before after ⊎ TookRefusal o t f s piece s' r before after)

-- ---- a step that breaks off

-- what was said where the history was full: nothing was sent or counted, and the ask, which is declared, has no entry
pub record IsFull (y : Said) (o t : Told) (s : Progress) : Type 0 where
  pub waits : y.stop ≡ Waits
  pub nothing : y.sent ≡ []
  pub ignored : y.session.ignored ≡ s.ignored
  pub asked : t.asks ≡ o.asks

-- a call that was to say this broke off: it asked no more than that
pub record BreaksOff (y : Said) (o t : Told) (s : Progress) (why : Break) : Type 0 where
  pub asked : (t.asks ≡ o.asks) ⊎ (t.asks ≡ o.asks ++ y.asks)
  pub full : why ≡ Full → IsFull y o t s

-- .. at the frame that was ready, which is a message, or wasn't read for want of memory
pub record BreaksFrame (o t : Told) (f : Framing) (s : Progress) (why : Break) : Type 0 where
  pub message : Message
  pub spelled_as : spells message f.held
  pub breaks : BreaksOff (said_to t f.start (length o.replies) s message) o t s why

abbrev pub BreaksAtFrame : (o t : Told) → Framing → Progress → Break → Type 0
BreaksAtFrame o t f s why = BreaksFrame o t f s why ⊎ ((why ≡ Memory) × (t.asks ≡ o.asks))

-- .. at a message that became whole in the piece
pub record BreaksMessage (o t : Told) (f : Framing) (s : Progress) (piece : List ℕ) (why : Break) : Type 0 where
  pub used : ℕ
  pub inside : used ≤ length piece
  pub message : Message
  pub frame : IsFrame (f.held ++ take used piece)
  pub spelled_as : spells message (f.held ++ take used piece)
  pub breaks : BreaksOff (said_to t f.start (length o.replies) s message) o t s why

abbrev pub Breaks : (o t : Told) → Framing → Progress → List ℕ → Break → Type 0
Breaks o t f s piece why = BreaksMessage o t f s piece why ⊎ ((why ≡ Memory) × (t.asks ≡ o.asks))

-- what takes asks took at most one for 16 of so many bytes
abbrev pub TookFew : (left left' : ℕ) → ℕ → Type 0
TookFew left left' bytes = 16 * left ≤ 16 * left' + bytes

-- ---- many steps

-- after these bytes the framer and the session stand where the speech is, its asks are those that were told, and each has its reply
pub record Follows (t : Told) (number : ℕ) (taken : List ℕ) (f : Framing) (s : Progress) (x : Speech) : Type 0 where
  pub messages : List Message
  pub begins : IsRead taken messages f.held
  pub said : x ≡ speech t number messages
  pub session : s ≡ x.session
  pub place : f.start ≡ x.place
  pub goes : x.stop ≡ Goes
  pub asks : length x.asks ≡ length t.replies
  pub asked : x.asks ≡ t.asks
  pub framer : IsOpen f

-- what a loop over these bytes keeps, after as many as `at`
pub record Following (t : Told) (number : ℕ) (bytes : List ℕ) (at : ℕ) (f : Framing) (s : Progress) (before now : List ℕ) : Type 0 where
  pub inside : at ≤ length bytes
  pub speech_is : Speech
  pub follows : Follows t number (take at bytes) f s speech_is
  pub written : now ≡ before ++ spelled speech_is.sent
  pub listens : IsListening s
  pub few : s.ignored ≤ at
  pub taken : f.start + length f.held ≡ at

-- what a call answered and wrote is the session's answer to the bytes, and its asks are those that were told
pub record IsAnswer (t : Told) (number : ℕ) (bytes before after : List ℕ) (r : Spoken) : Type 0 where
  pub speech_is : Speech
  pub spoken : IsSpoken t number bytes speech_is
  pub stop : r.stop ≡ speech_is.stop
  pub ignored : r.ignored ≡ speech_is.session.ignored
  pub asked : speech_is.asks ≡ t.asks
  pub written : after ≡ before ++ spelled speech_is.sent

-- what was asked is a beginning of all that is asked
pub record HasAsked (t : Told) (x : Speech) : Type 0 where
  pub left : List Ask
  pub asks : x.asks ≡ t.asks ++ left

-- what a call wrote is the session's answer to the bytes, which waits for an entry
pub record Awaits (t : Told) (number : ℕ) (bytes before after : List ℕ) (few : ℕ) : Type 0 where
  pub speech_is : Speech
  pub spoken : IsSpoken t number bytes speech_is
  pub waits : speech_is.stop ≡ Waits
  pub ignored : few ≡ speech_is.session.ignored
  pub asked : HasAsked t speech_is
  pub written : after ≡ before ++ spelled speech_is.sent
