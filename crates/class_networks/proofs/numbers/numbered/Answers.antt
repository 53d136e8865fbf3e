use Rattle.std.proofs.Common.{◌<◌, ◌∙◌, ◌++◌, ◌-◌, ◌+◌, ◌∷◌, [], ap, map}
use Rattle.decision_laws.specs.Vocabulary.{places_from}
use Rattle.class_networks.specs.Judgements.{constants_in, numbers_in}
use Rattle.class_networks.proofs.Ranges.{mapped_step}
use Rattle.class_networks.proofs.numbers.numbered.Goals as goal

pub loop-place-preserved : goal.loop-place-preserved
loop-place-preserved c =
    let g = c.args.judgement.now in
    let s = c.args.sort in
    let i = c.loop-place.place in
    let rest = map (numbers_in g s) (places_from (i + 1) (constants_in g s - (i + 1))) in
    let below : i < constants_in g s = rw (← c.count-count.ensures) c.loop-place-test.true in
    ap (λ xs. xs ++ rest) c.in_ok-push.ensures.ok ∙ ap (λ x. (c.loop-place.numbers ++ x ∷ []) ++ rest) c.in_ok-number.ensures
    ∙ mapped_step (numbers_in g s) c.loop-place.numbers i (constants_in g s) below ∙ c.loop-place.invariant
