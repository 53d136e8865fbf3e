use Rattle.std.proofs.Common.{◌≡◌, map, take}
use Rattle.decision_laws.specs.Copies.{place}
use Rattle.ground_inst.specs.Walk.{scope, ways_of}
use Rattle.ground_inst.proofs.places.places_of.Given as goal

abbrev pub invariant-loop-term : goal.invariant-loop-term
invariant-loop-term l = l.places.items ≡ map (place (ways_of l.names).voc (scope l.env)) (take l.term-index l.terms)
