-- Byte lists as the spellings of messages, one after another, and a tail.
use Rattle.std.specs.Prelude.{ℕ, ◌≡◌, ◌+◌, ◌⊎◌, List, [], ◌∷◌, length, take, drop}
use Rattle.of10_wire.specs.declared.refusal.WireRefusal.{WireRefusal}
use Rattle.of10_wire.specs.declared.rules.Opening.TheVariants.{Wants, Frame, Refused}
use Rattle.of10_wire.specs.Headers.{opening_of}
use Rattle.of10_wire.specs.Layout.{width}
use Rattle.of10_msgs.specs.declared.message.Message.{Message}
use Rattle.of10_msgs.specs.Messages.{message_slots, spells}
use Rattle.of10_msgs.specs.Refused.{Refuses}
use Rattle.of10_stream.specs.declared.tail.Tail.{Tail}
use Rattle.of10_stream.specs.declared.tail.Tail.TheVariants.{Cut, Broken}

-- the first frame is whole, has so many bytes, and spells the message
pub record Begins (message : Message) (len : ℕ) (bytes : List ℕ) : Type 0 where
  pub frame : opening_of bytes ≡ Frame len
  pub spelled : spells message (take len bytes)

-- the first frame is whole, and spells no message
pub record HasBadFrame (bytes : List ℕ) (refusal : WireRefusal) : Type 0 where
  pub len : ℕ
  pub frame : opening_of bytes ≡ Frame len
  pub refused : Refuses (take len bytes) refusal

-- what is left when no further message can be read: too few bytes for a header, or for its frame; or a refusal
abbrev pub IsTail : List ℕ → Tail → Type 0
IsTail bytes (Cut len) = ((n : ℕ) × (opening_of bytes ≡ Wants n)) × (len ≡ length bytes)
IsTail bytes (Broken refusal) = (opening_of bytes ≡ Refused refusal) ⊎ HasBadFrame bytes refusal

-- the bytes are the spellings of the messages, and then the rest
unfoldable pub IsRead : List ℕ → List Message → List ℕ → Type 0
IsRead bytes [] rest = bytes ≡ rest
IsRead bytes (m ∷ ms) rest = (len : ℕ) × Begins m len bytes × IsRead (drop len bytes) ms rest

-- the bytes are the spellings of the messages, and then the tail
abbrev pub IsStream : List ℕ → List Message → Tail → Type 0
IsStream bytes messages tail = (rest : List ℕ) × IsRead bytes messages rest × IsTail rest tail

-- how many bytes the frames of messages have
abbrev pub frame_width : Message → ℕ
frame_width message = width (message_slots message)

abbrev pub widths : List Message → ℕ
widths [] = 0
widths (m ∷ ms) = frame_width m + widths ms

-- exactly one list of messages and one tail
pub record HasOneStream (bytes : List ℕ) : Type 0 where
  pub messages : List Message
  pub tail : Tail
  pub is : IsStream bytes messages tail
  pub only : (ms : List Message) (t : Tail) → IsStream bytes ms t → (ms ≡ messages) × (t ≡ tail)
