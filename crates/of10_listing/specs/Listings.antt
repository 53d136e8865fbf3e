-- The listing of a stream.
use Rattle.std.specs.Prelude.{ℕ, ◌≡◌, ◌≤◌, ◌+◌, length, Bool, false, ◌==◌, List, [], ◌∷◌, ◌++◌, Result, Ok, Err}
use Rattle.of10_msgs.specs.declared.message.Message.{Message}
use Rattle.of10_stream.specs.declared.tail.Tail.{Tail}
use Rattle.of10_stream.specs.declared.tail.Tail.TheVariants.{Cut, Broken}
use Rattle.of10_stream.specs.Streams.{Begins, IsTail, IsRead, IsStream, frame_width, widths}
use Rattle.of10_msgs.specs.Messages.{kind_of, xid_of}
use Rattle.of10_listing.specs.declared.lines.Line.{Line}
use Rattle.of10_listing.specs.Lines.{message_line, tail_line}

-- a line for each message, at the place of its frame
abbrev pub lines : ℕ → List Message → List ℕ
lines at [] = []
lines at (m ∷ ms) = message_line at m ++ lines (at + frame_width m) ms

-- whether the bytes are whole messages alone
abbrev pub is_whole : Tail → Bool
is_whole (Cut len) = len == 0
is_whole (Broken refusal) = false

-- the text lists the stream that the bytes are, with a line of the tail, and says whether they are whole messages alone
pub record IsListing (bytes text : List ℕ) (whole : Bool) : Type 0 where
  pub messages : List Message
  pub tail : Tail
  pub stream : IsStream bytes messages tail
  pub listed : text ≡ lines 0 messages ++ tail_line (widths messages) tail
  pub ends : whole ≡ is_whole tail

-- The line tells of the message that comes first.
pub record IsFirstLine (bytes : List ℕ) (line : Line) : Type 0 where
  pub message : Message
  pub begins : Begins message line.length bytes
  pub kind : line.kind ≡ kind_of message
  pub xid : line.xid ≡ xid_of message
  pub long : 8 ≤ line.length
  pub within : line.length ≤ length bytes

-- what is told of the first message, or the tail that all bytes are
abbrev pub IsFirst : List ℕ → Result Line Tail → Type 0
IsFirst bytes (Ok line) = IsFirstLine bytes line
IsFirst bytes (Err tail) = IsTail bytes tail

-- some messages were read and listed, up to a place from which on there is the rest
pub record IsKept (bytes : List ℕ) (at : ℕ) (rest text : List ℕ) : Type 0 where
  pub messages : List Message
  pub read : IsRead bytes messages rest
  pub place : at ≡ widths messages
  pub listed : text ≡ lines 0 messages
