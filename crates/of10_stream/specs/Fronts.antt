-- What a whole frame is, and what comes first in bytes.
use Rattle.std.specs.Prelude.{ℕ, List, Result, Ok, Err}
use Rattle.of10_wire.specs.declared.refusal.WireRefusal.{WireRefusal}
use Rattle.of10_msgs.specs.declared.message.Message.{Message}
use Rattle.of10_msgs.specs.Messages.{spells}
use Rattle.of10_msgs.specs.Refused.{Refuses}
use Rattle.of10_stream.specs.declared.front.Front.{Front}
use Rattle.of10_stream.specs.declared.front.Front.TheVariants as front
use Rattle.of10_stream.specs.Streams.{Begins, IsTail}

-- the frame spells the message, or is refused so
abbrev pub IsReadAs : List ℕ → Result Message WireRefusal → Type 0
IsReadAs frame (Ok message) = spells message frame
IsReadAs frame (Err refusal) = Refuses frame refusal

abbrev pub IsFront : List ℕ → Front → Type 0
IsFront bytes (front.Message message len) = Begins message len bytes
IsFront bytes (front.Tail tail) = IsTail bytes tail
