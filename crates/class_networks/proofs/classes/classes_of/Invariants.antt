use Rattle.std.proofs.Common.{◌≡◌, ◌-◌, ◌++◌, ◌==◌}
use Rattle.std.specs.Prelude.{filter}
use Rattle.decision_laws.specs.Vocabulary.{places_from}
use Rattle.class_networks.specs.Judgements.{classes_in, constants_in, first_in}
use Rattle.class_networks.proofs.classes.classes_of.Given as goal

abbrev pub invariant-loop-place : goal.invariant-loop-place
invariant-loop-place l =
    l.classes ++ filter (λ a. first_in l.judgement l.sort a == a) (places_from l.place (constants_in l.judgement l.sort - l.place)) ≡ classes_in l.judgement l.sort
