use Rattle.std.proofs.Common.{◌≡◌, ◌∙◌, ap, arith, min, sym}
use Rattle.ground_inst.specs.Walk.{scope}
use Rattle.copy_truth.proofs.EarlySteps.{tried_elsewhere}
use Rattle.copy_truth.proofs.misses.tried_misses.Goals as goal

pub returns-clause-value : goal.returns-clause-value
returns-clause-value c =
    let last : c.places.place ≡ c.min-count.result = omega (arith, c.places-test.false, c.places.auto.place-end) in
    tried_elsewhere c.args.r.now (scope c.args.env.now.items) c.args.x c.args.within c.args.sign c.args.leaf.now c.places.missed c.places.place (sym c.in_ok-is_known_leaf_at.ensures.value ∙ c.if-not-branch.false)
    (last ∙ c.min-count.ensures ∙ ap (λ n. min n 128) c.of.ensures) c.places.invariant.1
