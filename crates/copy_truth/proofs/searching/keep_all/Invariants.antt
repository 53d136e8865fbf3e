use Rattle.std.proofs.Common.{◌≡◌, ◌-◌}
use Rattle.ground_inst.specs.Walk.{scope}
use Rattle.copy_truth.proofs.SearchLaws.{GoesOn}
use Rattle.copy_truth.proofs.searching.keep_all.Given as goal

abbrev pub invariant-goals : goal.invariant-goals
invariant-goals l = GoesOn l.r l.fn.goals.items l.from (scope l.fn.env.items) l.place l.sight l.goals.items × (l.env.items ≡ l.fn.env.items)

abbrev pub decreases-goals : goal.decreases-goals
decreases-goals l = l.end - l.place
