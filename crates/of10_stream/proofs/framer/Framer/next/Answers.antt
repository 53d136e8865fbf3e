use Rattle.std.proofs.Common.{refl, ap, ◌∙◌}
use Rattle.of10_stream.specs.Framings.{Framing}
use Rattle.of10_stream.proofs.FramerLaws.{open_new}
use Rattle.of10_stream.proofs.framer.Framer.next.Goals as goal

pub returns-clause-open : goal.returns-clause-open
returns-clause-open c = open_new _ refl (ap (λ (f : Framing). f.ended) c.self.view_is ∙ c.requires.ready.on)
