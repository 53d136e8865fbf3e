use Rattle.std.proofs.Common.{◌≡◌, ◌++◌, ◌==◌, ◌+◌, ◌-◌, not}
use Rattle.std.specs.Prelude.{filter}
use Rattle.std.specs.List.{list_any}
use Rattle.decision_laws.specs.Vocabulary.{places_from}
use Rattle.class_networks.specs.Judgements.{free_in}
use Rattle.class_networks.proofs.ports.free_numbers.Given as goal

abbrev pub invariant-loop-before : goal.invariant-loop-before
invariant-loop-before l =
    l.free ++ filter (λ k. not (list_any (λ m. k == m) l.judgement.parts.now.numerals)) (places_from (l.before + 1) (l.count - l.before)) ≡ free_in l.judgement
