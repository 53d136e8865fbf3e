-- A framer: what it holds, and what it does with a piece.
use Rattle.std.specs.Prelude.{ℕ, ◌≡◌, ◌+◌, ◌≤◌, Bool, true, false, List, ◌++◌, length, take}
use Rattle.of10_wire.specs.declared.refusal.WireRefusal.{WireRefusal}
use Rattle.of10_wire.specs.declared.rules.Opening.TheVariants.{Wants, Frame, Refused}
use Rattle.of10_wire.specs.Headers.{opening_of}
use Rattle.of10_stream.specs.declared.framer.Fed.{Fed}
use Rattle.of10_stream.specs.declared.framer.FrameRefusal.{FrameRefusal}

-- where a framer's frame begins in the stream, the bytes of that frame that have come, and whether it has ended
pub record Framing : Type 0 where
  pub start : ℕ
  pub held : List ℕ
  pub ended : Bool

abbrev pub framing : ℕ → List ℕ → Framing
framing start held = record { start = start; held = held; ended = false }

-- less than a frame, or than a header
abbrev pub IsWanting : List ℕ → Type 0
IsWanting bytes = (n : ℕ) × (opening_of bytes ≡ Wants n)

-- one frame and nothing else
abbrev pub IsFrame : List ℕ → Type 0
IsFrame bytes = opening_of bytes ≡ Frame (length bytes)

-- bytes may be fed
pub record IsOpen (f : Framing) : Type 0 where
  pub wanting : IsWanting f.held
  pub on : f.ended ≡ false

-- a frame is ready
pub record IsReady (f : Framing) : Type 0 where
  pub frame : IsFrame f.held
  pub on : f.ended ≡ false

-- some bytes of the piece were taken: all, and no frame is whole, or as many as made a frame whole
pub record Takes (old : Framing) (piece : List ℕ) (now : Framing) (fed : Fed) : Type 0 where
  pub used : fed.used ≤ length piece
  pub came : now ≡ framing old.start (old.held ++ take fed.used piece)
  pub ready : fed.ready ≡ true → IsFrame now.held
  pub waits : fed.ready ≡ false → (fed.used ≡ length piece) × IsWanting now.held

-- the bytes begin with a header that is refused, at its place in the stream
abbrev pub IsRefusedAt : ℕ → List ℕ → FrameRefusal → Type 0
IsRefusedAt start bytes r = (e : WireRefusal) × (opening_of bytes ≡ Refused e) × (r ≡ record { at = start + e.at; why = e.why })
