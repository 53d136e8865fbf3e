use Rattle.std.proofs.Common.{sym}
use Rattle.std.proofs.Math.Seq.{take-length}
use Rattle.ground_inst.proofs.NamesLemmas.{numeral_index}
use Rattle.ground_inst.proofs.name_places.numeral_place.Goals as goal

pub returns : goal.returns
returns c =
    rw (c.constants_before.ensures.count, c.position.ensures.place, c.as_slice-constants.ensures, c.as_slice.ensures, take-length)
    (sym (numeral_index c.args.numeral c.args.parts.now.constants c.args.parts.now.numerals))
