use Rattle.std.proofs.Common.{◌≡◌, ◌≤◌, ◌+◌, ◌++◌, length, All}
use Rattle.csdn_conditions.specs.Start.{stored_from}
use Rattle.csdn_conditions.proofs.start.stored.Given as goal

abbrev pub invariant-relations : goal.invariant-relations
invariant-relations l =
    (l.members ++ stored_from l.rows l.place l.rest ≡ stored_from l.rows 0 l.relations) × (l.place + length l.rest ≡ length l.relations)
    × All (λ r. length r.sorts ≤ 5) l.rest

abbrev pub decreases-relations : goal.decreases-relations
decreases-relations l = length l.rest
