use Rattle.std.proofs.Common.{◌≡◌, ◌++◌, ◌-◌, map}
use Rattle.decision_laws.specs.Vocabulary.{places_from}
use Rattle.class_networks.specs.Judgements.{constants_in, numbers_in}
use Rattle.class_networks.proofs.numbers.numbered.Given as goal

abbrev pub invariant-loop-place : goal.invariant-loop-place
invariant-loop-place l =
    l.numbers ++ map (numbers_in l.judgement l.sort) (places_from l.place (constants_in l.judgement l.sort - l.place))
    ≡ map (numbers_in l.judgement l.sort) (places_from 0 (constants_in l.judgement l.sort))
