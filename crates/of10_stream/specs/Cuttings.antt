-- Byte lists as frames, and what a framer took.
use Rattle.std.specs.Prelude.{ℕ, ◌≡◌, ◌≢◌, List, [], ◌∷◌, ◌++◌, length}
use Rattle.std.specs.List.{flat_map, AllByRecursion}
use Rattle.of10_wire.specs.declared.rules.Opening.TheVariants.{Frame}
use Rattle.of10_wire.specs.Headers.{opening_of}
use Rattle.of10_msgs.specs.declared.message.Message.{Message}
use Rattle.of10_msgs.specs.Messages.{spells}
use Rattle.of10_stream.specs.Framings.{Framing, IsFrame}

-- the frames one after another
abbrev pub joined : List (List ℕ) → List ℕ
joined frames = flat_map (λ (frame : List ℕ). frame) frames

-- The bytes are whole frames by their headers, and then a rest that begins with none.
pub record Cuts (bytes : List ℕ) (frames : List (List ℕ)) (rest : List ℕ) : Type 0 where
  pub whole : bytes ≡ joined frames ++ rest
  pub each : AllByRecursion IsFrame frames
  pub last : (n : ℕ) → opening_of rest ≢ Frame n

-- A framer took the bytes, let these frames go, and holds what is left.
pub record Follows (taken : List ℕ) (frames : List (List ℕ)) (framer : Framing) : Type 0 where
  pub whole : taken ≡ joined frames ++ framer.held
  pub each : AllByRecursion IsFrame frames
  pub place : framer.start ≡ length (joined frames)

-- the first frames spell the messages
abbrev pub Spell : List Message → List (List ℕ) → Type 0
Spell [] frames = Unit {0}
Spell (m ∷ ms) [] = ⊥
Spell (m ∷ ms) (frame ∷ frames) = spells m frame × Spell ms frames
