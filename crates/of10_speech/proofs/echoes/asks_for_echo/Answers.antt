use Rattle.std.proofs.Common.{length, sym, ◌∙◌, arith}
use Rattle.std.proofs.lemmas.Bool.{eq-eqb, eqb-true}
use Rattle.of10_wire.proofs.Openings.{framed}
use Rattle.of10_speech.proofs.Echoed.{asks}
use Rattle.of10_speech.proofs.echoes.asks_for_echo.Goals as goal

pub u8_at-requires : goal.u8_at-requires
u8_at-requires c = let f = framed c.args.frame.now (length c.args.frame.now) c.requires in omega (arith, f.long)

pub returns : goal.returns
returns c = (λ is. asks c.args.frame.now c.requires (sym c.u8_at.ensures ∙ eqb-true c.u8_at.result 2 is), λ o. eq-eqb c.u8_at.result 2 (c.u8_at.ensures ∙ o.kind))
