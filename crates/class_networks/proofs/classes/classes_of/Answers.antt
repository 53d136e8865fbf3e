use Rattle.std.proofs.Common.{◌<◌, ◌∙◌, ◌++◌, ◌-◌, ◌+◌, ◌==◌, ap}
use Rattle.std.specs.Prelude.{filter}
use Rattle.decision_laws.specs.Vocabulary.{places_from}
use Rattle.class_networks.specs.Judgements.{constants_in, first_in}
use Rattle.class_networks.proofs.Ranges.{kept_step}
use Rattle.class_networks.proofs.classes.classes_of.Goals as goal

pub loop-place-preserved : goal.loop-place-preserved
loop-place-preserved c =
    let g = c.args.judgement.now in
    let s = c.args.sort in
    let i = c.loop-place.place in
    let below : i < constants_in g s = rw (← c.count-count.ensures) c.loop-place-test.true in
    ap (λ xs. xs ++ filter (λ a. first_in g s a == a) (places_from (i + 1) (constants_in g s - (i + 1)))) c.in_ok-push_class.ensures
    ∙ kept_step (λ a. first_in g s a == a) c.loop-place.classes i (constants_in g s) below ∙ c.loop-place.invariant
