use Rattle.std.proofs.Common.{◌≡◌}
use Rattle.ground_inst.specs.Walk.{scope}
use Rattle.copy_truth.proofs.EarlySteps.{AreTried}
use Rattle.copy_truth.proofs.misses.tried_misses.Given as goal

abbrev pub invariant-places : goal.invariant-places
invariant-places l = (l.env.items ≡ l.fn.env.items) × AreTried l.r (scope l.fn.env.items) l.x l.within l.sign l.leaf l.missed l.place
