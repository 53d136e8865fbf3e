use Rattle.std.proofs.Common.{◌≡◌, ◌++◌, ◌+◌, ◌-◌, ◌≤◌}
use Rattle.std.specs.Prelude.{flat_map}
use Rattle.std.specs.List.{range_with_len}
use Rattle.made_program.specs.Made.{invariant}
use Rattle.made_program.proofs.text.put_invariants.Given as goal

abbrev pub invariant-relations : goal.invariant-relations
invariant-relations l = (l.out.items ≡ l.fn.out.items ++ flat_map invariant (range_with_len 2 (l.before - 1))) × (l.before ≤ l.count + 1)
