use Rattle.std.proofs.Common.{◌+◌, ◌++◌, ◌∷◌, ◌≡◌, length}
use Rattle.std.specs.Prelude.{flat_map}
use Rattle.decision_laws.specs.Classes.{all_tuples}
use Rattle.decision_laws.specs.Vocabulary.{places_from}
use Rattle.fol_forms.specs.Counts.{count_of}
use Rattle.ground_inst.specs.Equality.{exchanges}
use Rattle.ground_inst.proofs.exchange.+tuples.Given as goal

abbrev pub decreases-write_tuples : goal.decreases-write_tuples
decreases-write_tuples l = length l.unset.now + length l.unset.now

abbrev pub decreases-write_tuples_over : goal.decreases-write_tuples_over
decreases-write_tuples_over l = length l.others.now + length l.others.now + 1

abbrev pub invariant-write_tuples_over-constants : goal.invariant-write_tuples_over-constants
invariant-write_tuples_over-constants l =
    (l.rows
    ≡ l.fn.rows
    ++ flat_map (λ a. flat_map (λ xs. exchanges l.constants.parts.now l.constants.facts.now l.relation l.columns (l.fn.places.items ++ a ∷ xs)) (all_tuples (count_of l.constants.facts.now.counts) l.others)) (places_from 0 l.a))
    × (l.places.items ≡ l.fn.places.items)
