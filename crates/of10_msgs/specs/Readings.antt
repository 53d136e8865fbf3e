-- What bytes are: a message, or the first reason why they are none.
use Rattle.std.specs.Prelude.{ℕ, ◌≡◌, List}
use Rattle.of10_wire.specs.declared.refusal.WireRefusal.{WireRefusal}
use Rattle.of10_msgs.specs.declared.message.Message.{Message}
use Rattle.of10_msgs.specs.Messages.{spells}
use Rattle.of10_msgs.specs.Refused.{Refuses}

pub data Reading : Type 0 where
  Spelled : (message : Message) → Reading
  Refused : (refusal : WireRefusal) → Reading

-- the bytes spell the message, or are refused so
abbrev pub Reads : List ℕ → Reading → Type 0
Reads bytes (Spelled message) = spells message bytes
Reads bytes (Refused refusal) = Refuses bytes refusal

-- Exactly one holds: one message is spelled, or one refusal stands.
pub record HasOneReading (bytes : List ℕ) : Type 0 where
  pub reading : Reading
  pub reads : Reads bytes reading
  pub only : (other : Reading) → Reads bytes other → other ≡ reading
