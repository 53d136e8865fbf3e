use Rattle.std.proofs.Common.{◌≡◌, ◌+◌, ◌≤◌, drop}
use Rattle.csdn_types.specs.Programs.{items_faults, with_items}
use Rattle.csdn_tree.specs.Binders.{items_binders}
use Rattle.csdn_core.specs.Sorted.{most_numbers}
use Rattle.csdn_types.proofs.draft.items.Given as goal

abbrev pub invariant-loop-each : goal.invariant-loop-each
invariant-loop-each l = record {
  rest : items_faults l.fn.draft l.raw ≡ items_faults l.draft (drop l.each-index l.raw);
  made : with_items l.fn.draft l.raw ≡ with_items l.draft (drop l.each-index l.raw);
  room : l.draft.scope.next + items_binders (drop l.each-index l.raw) ≤ most_numbers;
}
