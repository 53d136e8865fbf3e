-- What a session says to a stream, where the replies to its asks are known.
use Rattle.std.specs.Prelude.{ℕ, ◌≡◌, ◌+◌, ◌≤◌, List, [], ◌∷◌, ◌++◌, length, slice_get, Option, Some, None, Bool, if◌then◌else◌}
use Rattle.csdn_history.specs.declared.reply.Reply.{Reply}
use Rattle.of10_wire.specs.declared.refusal.WireRefusal.{WireRefusal}
use Rattle.of10_msgs.specs.declared.message.Message.{Message}
use Rattle.of10_msgs.specs.declared.message.Message.TheVariants.{Hello}
use Rattle.of10_stream.specs.declared.tail.Tail.{Tail}
use Rattle.of10_stream.specs.declared.tail.Tail.TheVariants.{Broken}
use Rattle.of10_stream.specs.Streams.{IsStream, frame_width}
use Rattle.of10_session.specs.declared.session.Phase.TheVariants.{Greet}
use Rattle.of10_session.specs.declared.turn.Ask.{Ask}
use Rattle.of10_session.specs.declared.turn.Ask.TheVariants.{Join, Packet, Expire}
use Rattle.of10_session.specs.declared.turn.Turn.{Turn}
use Rattle.of10_session.specs.declared.turn.Turn.TheVariants.{Go, Ask as AskFor, End}
use Rattle.of10_session.specs.declared.turn.TurnEnd.TheVariants as end
use Rattle.of10_session.specs.Progresses.{Progress, fresh, in_phase, drawn}
use Rattle.of10_session.specs.Sessions.{turn}
use Rattle.of10_session.specs.Replies.{answered, passed}
use Rattle.of10_speech.specs.declared.stops.SpeechStop.{SpeechStop}
use Rattle.of10_speech.specs.declared.stops.SpeechStop.TheVariants.{Goes, Waits, Ends}
use Rattle.of10_speech.specs.declared.stops.SpokenEnd.TheVariants.{Incompatible, OutOfTurn, UnknownSwitch, Wire}

-- ---- what answers the asks

-- which asks are declared, the replies to the entries of the session, and the asks so far that are declared
pub record Told : Type 0 where
  pub declares : Ask → Bool
  pub replies : List Reply
  pub asks : List Ask

abbrev pub told : {P : Type 0} → (P → Ask → Bool) → (P → List Reply) → (P → List Ask) → P → Told
told declares given asked p = record { declares = declares p; replies = given p; asks = asked p }

-- the same asks are declared, and there are further replies
pub record Further (t u : Told) : Type 0 where
  pub declares : u.declares ≡ t.declares
  pub more : List Reply
  pub replies : u.replies ≡ t.replies ++ more

-- ---- to one message

pub record Said : Type 0 where
  pub session : Progress
  pub sent : List Message
  -- the asks that are declared
  pub asks : List Ask
  pub stop : SpeechStop

abbrev pub saying : Progress → List Message → List Ask → SpeechStop → Said
saying s sent asks stop = record { session = s; sent = sent; asks = asks; stop = stop }

-- a declared ask has its entry, or none yet
abbrev pub on_entry : Option Reply → Progress → Ask → Said
on_entry None s ask = saying s [] (ask ∷ []) Waits
on_entry (Some reply) s ask = saying (answered s reply).session (answered s reply).sent (ask ∷ []) Goes

-- an ask that isn't declared: a join ends the session, any other is let go
abbrev pub on_stranger : Ask → Progress → Said
on_stranger (Join switch) s = saying s [] [] (Ends (UnknownSwitch switch))
on_stranger (Packet switch a b i) s = saying (passed s) [] [] Goes
on_stranger (Expire switch a b i cookie) s = saying (passed s) [] [] Goes

-- the ask before which k were declared
unfoldable pub on_ask : Told → ℕ → Progress → Ask → Said
on_ask t k s ask = if t.declares ask then on_entry (slice_get t.replies k) s ask else on_stranger ask s

-- a turn at this place of the stream
abbrev pub on_turn : Told → (place k : ℕ) → Progress → List Message → Turn → Said
on_turn t place k s sent Go = saying s sent [] Goes
on_turn t place k s sent (AskFor ask) = on_ask t k s ask
on_turn t place k s sent (End end.Incompatible) = saying s sent [] (Ends Incompatible)
on_turn t place k s sent (End end.OutOfTurn) = saying s sent [] (Ends (OutOfTurn place))

-- the message at this place, before which k asks were declared
abbrev pub said_to : Told → (place k : ℕ) → Progress → Message → Said
said_to t place k s m = on_turn t place k (turn s m).session (turn s m).sent (turn s m).turn

-- ---- to messages, one after another

-- what was said so far, and where the next message begins
pub record Speech : Type 0 where
  pub session : Progress
  pub place : ℕ
  pub sent : List Message
  pub asks : List Ask
  pub stop : SpeechStop

-- HELLO comes first
abbrev pub opening : ℕ → Speech
opening number = record { session = in_phase (drawn (fresh number)) Greet; place = 0; sent = Hello 1 1 [] ∷ []; asks = []; stop = Goes }

abbrev pub with_said : Speech → ℕ → Said → Speech
with_said x wide y = record { session = y.session; place = x.place + wide; sent = x.sent ++ y.sent; asks = x.asks ++ y.asks; stop = y.stop }

abbrev pub heard : SpeechStop → Told → Speech → Message → Speech
heard Goes t x m = with_said x (frame_width m) (said_to t x.place (length x.asks) x.session m)
heard Waits t x m = x
heard (Ends e) t x m = x

-- one more message; a session that has stopped hears none
abbrev pub hear : Told → Speech → Message → Speech
hear t x m = heard x.stop t x m

abbrev pub hear_all : Told → Speech → List Message → Speech
hear_all t x [] = x
hear_all t x (m ∷ ms) = hear_all t (hear t x m) ms

abbrev pub speech : Told → ℕ → List Message → Speech
speech t number messages = hear_all t (opening number) messages

-- ---- to bytes

abbrev pub refused_speech : Speech → WireRefusal → Speech
refused_speech x e = record { session = x.session; place = x.place; sent = x.sent; asks = x.asks; stop = Ends (Wire (x.place + e.at) e.why) }

-- a session that goes on to a tail that is refused ends there
abbrev pub ended_by : SpeechStop → Tail → Speech → Speech
ended_by Goes (Broken e) x = refused_speech x e
ended_by stop tail x = x

-- A session's answer to bytes: what it says to the messages of their stream, and then to the tail.
pub record IsSpoken (t : Told) (number : ℕ) (bytes : List ℕ) (x : Speech) : Type 0 where
  pub messages : List Message
  pub tail : Tail
  pub stream : IsStream bytes messages tail
  pub said : x ≡ ended_by (speech t number messages).stop tail (speech t number messages)

-- what was said so far, and what is said in the end
pub record IsBeginning (x y : Speech) : Type 0 where
  pub sent_behind : List Message
  pub sent : y.sent ≡ x.sent ++ sent_behind
  pub asks_behind : List Ask
  pub asks : y.asks ≡ x.asks ++ asks_behind
  pub ignored : x.session.ignored ≤ y.session.ignored

-- exactly one answer
pub record HasOneAnswer (t : Told) (number : ℕ) (bytes : List ℕ) : Type 0 where
  pub answer : Speech
  pub is : IsSpoken t number bytes answer
  pub only : (x : Speech) → IsSpoken t number bytes x → x ≡ answer
