use Rattle.std.proofs.Common.{◌≡◌, ◌+◌, ◌≤◌, length, All}
use Rattle.net_text.specs.Lines.{relation_from}
use Rattle.net_text.proofs.line.relation_at.Given as goal

abbrev pub invariant-relations : goal.invariant-relations
invariant-relations l =
    (relation_from l.at l.rest l.name ≡ relation_from 0 l.program.relations l.name) × (l.at + length l.rest ≤ 64) × All (λ r. length r.sorts ≤ 5) l.rest

abbrev pub decreases-relations : goal.decreases-relations
decreases-relations l = length l.rest
