use Rattle.std.proofs.Common.{◌≡◌, length}
use Rattle.fol_forms.specs.Counts.{count_of}
use Rattle.ground_inst.specs.Facts.{tuple_place}
use Rattle.ground_inst.proofs.facts.tuple_place_in.Given as goal

abbrev pub invariant-relations : goal.invariant-relations
invariant-relations l =
    tuple_place (count_of l.counts) l.rest l.none l.relation l.places ≡ tuple_place (count_of l.counts) l.fn.relations l.none l.relation l.places

abbrev pub decreases-relations : goal.decreases-relations
decreases-relations l = length l.rest
