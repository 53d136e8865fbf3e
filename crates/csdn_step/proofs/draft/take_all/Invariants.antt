use Rattle.std.proofs.Common.{◌≡◌, length}
use Rattle.csdn_step.specs.Drafts.{without}
use Rattle.csdn_step.proofs.draft.take_all.Given as goal

abbrev pub invariant-rows : goal.invariant-rows
invariant-rows l = without l.left l.state ≡ without l.fn.rows l.fn.state

abbrev pub decreases-rows : goal.decreases-rows
decreases-rows l = length l.left
