use Rattle.std.proofs.Common.{◌≡◌, length}
use Rattle.csdn_step.specs.Drafts.{standing, start_of, taken_each}
use Rattle.csdn_step.proofs.draft.remove_each.Given as goal

abbrev pub invariant-ports : goal.invariant-ports
invariant-ports l =
    (taken_each l.key l.rest (standing l.draft) ≡ taken_each l.key l.ports (standing l.fn.draft))
    × (start_of l.draft ≡ start_of l.fn.draft)

abbrev pub decreases-ports : goal.decreases-ports
decreases-ports l = length l.rest
