use Rattle.std.proofs.Common.{◌<◌, ◌∙◌, ◌++◌, ◌-◌, ◌+◌, ◌∷◌, [], ap, map, length}
use Rattle.decision_laws.specs.Vocabulary.{places_from}
use Rattle.class_networks.specs.Made.{value_in}
use Rattle.class_networks.proofs.Ranges.{mapped_step}
use Rattle.class_networks.proofs.values.values_of.Goals as goal

pub loop-place-preserved : goal.loop-place-preserved
loop-place-preserved c =
    let P = c.args.parts.now in
    let f = value_in P c.args.numbers.now in
    let i = c.loop-place.place in
    let rest = map f (places_from (i + 1) (length P.constants - (i + 1))) in
    let below : i < length P.constants = rw (← c.len-count.ensures) c.loop-place-test.true in
    ap (λ xs. xs ++ rest) c.in_ok-push.ensures.ok ∙ ap (λ x. (c.loop-place.values ++ x ∷ []) ++ rest) c.in_ok-value.ensures
    ∙ mapped_step f c.loop-place.values i (length P.constants) below ∙ c.loop-place.invariant
