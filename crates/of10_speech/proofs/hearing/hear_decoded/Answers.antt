use Rattle.std.proofs.Common.{Result, refl, subst, arith}
use Rattle.of10_wire.specs.declared.refusal.WireRefusal.{WireRefusal}
use Rattle.of10_msgs.specs.declared.message.Message.{Message}
use Rattle.of10_msgs.proofs.Accepted.{sendable}
use Rattle.of10_stream.specs.Fronts.{IsReadAs}
use Rattle.of10_speech.proofs.Frames.{refused_room}
use Rattle.of10_speech.proofs.hearing.hear_decoded.Goals as goal

pub ended-requires : goal.ended-requires
ended-requires g c =
    refused_room c.args.place c.args.frame.now c.args.frame.now c.in-Ok-Err.refusal c.requires.frame refl (subst (λ (r : Result Message WireRefusal). IsReadAs c.args.frame.now r) c.in-Ok-Err.field-0-is c.in-Ok-Err.ensures) c.requires.room

pub hear-requires-clause-sendable : goal.hear-requires-clause-sendable
hear-requires-clause-sendable g c =
    sendable c.in-Ok-Ok.message c.args.frame.now (subst (λ (r : Result Message WireRefusal). IsReadAs c.args.frame.now r) c.in-Ok-Ok.field-0-is c.in-Ok-Ok.ensures) (omega (arith, c.requires.short))
