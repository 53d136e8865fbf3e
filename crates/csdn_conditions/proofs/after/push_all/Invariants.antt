use Rattle.std.proofs.Common.{◌≡◌, ◌≤◌, ◌+◌, ◌-◌, ◌++◌, map}
use Rattle.csdn_conditions.specs.Conditions.{formulas, after_events, all_after}
use Rattle.csdn_conditions.specs.Answers.{nodes_of_all}
use Rattle.csdn_conditions.proofs.Rooms.{from}
use Rattle.csdn_conditions.proofs.after.push_all.Given as goal

abbrev pub invariant-levels : goal.invariant-levels
invariant-levels l =
    (l.members ++ from (λ k. map (after_events l.program k) (formulas l.invariants)) l.count l.level
    ≡ l.fn.members ++ all_after l.program l.level (formulas l.invariants))
    × (l.left + nodes_of_all (all_after l.program l.level (formulas l.invariants))
    ≡ l.room + nodes_of_all (from (λ k. map (after_events l.program k) (formulas l.invariants)) l.count l.level))
    × (l.left ≤ l.room) × (l.count ≤ l.level + 1)

abbrev pub decreases-levels : goal.decreases-levels
decreases-levels l = l.level + 1 - l.count
