use Rattle.std.proofs.Common.{◌≡◌, ◌≤◌, ◌+◌, ◌++◌, length, map}
use Rattle.csdn_conditions.specs.Conditions.{formulas, after_events}
use Rattle.csdn_conditions.specs.Answers.{nodes_of_all}
use Rattle.csdn_conditions.proofs.after.push_each.Given as goal

abbrev pub invariant-invariants : goal.invariant-invariants
invariant-invariants l =
    (l.members ++ map (after_events l.program l.count) (formulas l.rest) ≡ l.fn.members ++ map (after_events l.program l.count) (formulas l.invariants))
    × (l.left + nodes_of_all (map (after_events l.program l.count) (formulas l.invariants)) ≡ l.room + nodes_of_all (map (after_events l.program l.count) (formulas l.rest)))
    × (l.left ≤ l.room)

abbrev pub decreases-invariants : goal.decreases-invariants
decreases-invariants l = length l.rest
