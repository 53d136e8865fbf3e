use Rattle.std.proofs.Common.{◌∙◌, ap}
use Rattle.of10_wire.specs.Layout.{number}
use Rattle.of10_stream.proofs.FramerLaws.{takes_body}
use Rattle.of10_stream.proofs.framer.Framer.take_body.Goals as goal

pub returns : goal.returns
returns c =
    takes_body c.args.self.now c.take_up_to-used.new.self c.args.piece.now c.from-len.result c.take_up_to-used.result c.len.result c.requires.open c.requires.headed (c.from-len.ensures ∙ (c.u16_at.ensures ∙ ap (number 2 2) c.held.ensures))
    c.take_up_to-used.ensures.used c.take_up_to-used.ensures.held c.take_up_to-used.ensures.same.0 c.take_up_to-used.ensures.same.1 c.len.ensures
