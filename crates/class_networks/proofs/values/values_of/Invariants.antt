use Rattle.std.proofs.Common.{◌≡◌, ◌++◌, ◌-◌, map, length}
use Rattle.decision_laws.specs.Vocabulary.{places_from}
use Rattle.class_networks.specs.Made.{value_in, values_in}
use Rattle.class_networks.proofs.values.values_of.Given as goal

abbrev pub invariant-loop-place : goal.invariant-loop-place
invariant-loop-place l =
    l.values ++ map (value_in l.parts l.numbers) (places_from l.place (length l.parts.constants - l.place)) ≡ values_in l.parts l.numbers
