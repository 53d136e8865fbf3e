use Rattle.std.proofs.Common.{◌≡◌, true, sym, ◌∙◌, arith}
use Rattle.of10_wire.specs.Layout.{number}
use Rattle.of10_msgs.specs.Lengths.{allows_length}
use Rattle.of10_msgs.proofs.Frames.{frame_shown}
use Rattle.of10_msgs.proofs.decoding.early_refusal.Goals as goal

pub returns-then-allows-clause-frame : goal.returns-then-allows-clause-frame
returns-then-allows-clause-frame c = λ none.
    let allowed : allows_length (number 1 1 c.args.bytes.now) c.in-Frame.len ≡ true = rw (← c.u8_at.ensures, ← c.lengths_of-lengths.ensures.lengths, ← c.allows.ensures) c.if-allows.true in
    frame_shown c.args.bytes.now c.in-Frame.len (sym c.opening_of.ensures.opening ∙ c.in-Frame.is) (omega (arith, c.if-len-bytes.true)) allowed
