use Rattle.std.proofs.Common.{sym}
use Rattle.ground_inst.proofs.NamesLemmas.{constant_index}
use Rattle.ground_inst.proofs.name_places.constant_place.Goals as goal

pub returns : goal.returns
returns c = rw (c.constants_before.ensures.count, c.constant_sort.ensures, c.as_slice.ensures) (sym (constant_index c.args.parts.now c.args.id.0))
