use Rattle.std.proofs.Common.{◌≡◌, ◌++◌, filter, length}
use Rattle.net_structs.specs.Rows.{held}
use Rattle.csdn_step.specs.Courses.{differs}
use Rattle.csdn_step.specs.Drafts.{standing, start_of}
use Rattle.csdn_step.proofs.settle.differing.Given as goal

abbrev pub invariant-matches : goal.invariant-matches
invariant-matches l =
    l.changed ++ filter (λ m. differs l.network.ports (held (start_of l.draft)) (standing l.draft) m) l.rest
    ≡ filter (λ m. differs l.network.ports (held (start_of l.draft)) (standing l.draft) m) l.matches

abbrev pub decreases-matches : goal.decreases-matches
decreases-matches l = length l.rest
