use Rattle.std.proofs.Common.{◌<◌, ◌∙◌, sym}
use Rattle.decision_laws.specs.Copies.{Equation}
use Rattle.class_networks.specs.Judgements.{constants_in, says}
use Rattle.class_networks.proofs.Ranges.{first_step}
use Rattle.class_networks.proofs.classes.first_of.Goals as goal

pub loop-other-preserved : goal.loop-other-preserved
loop-other-preserved c =
    let g = c.args.judgement.now in
    let s = c.args.sort in
    let below : c.loop-other.other < constants_in g s = rw (← c.count-count.ensures) c.loop-other-test.true in
    first_step (λ b. says g (Equation s b c.args.place)) c.loop-other.other (constants_in g s) below (sym c.in_ok-are_equal.ensures ∙ c.if-branch.false) ∙ c.loop-other.invariant
