-- What a frame asks that asks for an echo.
use Rattle.std.specs.Prelude.{ℕ, List, drop}
use Rattle.of10_wire.specs.Layout.{number}
use Rattle.of10_msgs.specs.declared.message.Message.{Message}
use Rattle.of10_msgs.specs.declared.message.Message.TheVariants.{EchoRequest}

-- the number of the request stands behind type and length, and its bytes behind that
abbrev pub request_in : List ℕ → Message
request_in frame = EchoRequest (number 4 4 frame) (drop 8 frame)
