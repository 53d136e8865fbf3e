use Rattle.std.proofs.Common.{◌≤◌, ◌+◌, ◌<◌, length, drop, ◌∙◌, arith, sym}
use Rattle.csdn_tree.specs.Binders.{items_binders, item_binders}
use Rattle.csdn_core.specs.Sorted.{most_numbers}
use Rattle.csdn_types.proofs.First.{exit_passes, first_here}
use Rattle.csdn_types.proofs.ItemLists.{next-with_item, next_items_faults, next_with_items, next_binders, item_passed, no_more_item_faults, no_more_items}
use Rattle.csdn_types.proofs.draft.items.Goals as goal

pub item-requires : goal.item-requires
item-requires c =
    let within : c.loop-each.each-index < length c.args.raw.now = omega arith in
    let more = next_binders c.args.raw.now c.loop-each.each-index c.each-item.result within c.each-item.is in
    omega (arith, more, c.loop-each.invariant.room)

pub returns-in_err-item-clause-passes : goal.returns-in_err-item-clause-passes
returns-in_err-item-clause-passes c =
    let within : c.loop-each.each-index < length c.args.raw.now = omega arith in
    exit_passes _ _ _ c.from_residual.ensures.1 (rw (c.loop-each.invariant.rest, next_items_faults c.args.raw.now c.loop-each.each-index c.each-item.result within c.each-item.is c.loop-each.draft) (first_here _ _ _ c.in_err-item.ensures.passes))

pub loop-each-preserved : goal.loop-each-preserved
loop-each-preserved c =
    let within : c.loop-each.each-index < length c.args.raw.now = omega arith in
    let more = next_binders c.args.raw.now c.loop-each.each-index c.each-item.result within c.each-item.is in
    let used = next-with_item c.loop-each.draft c.each-item.result in
    let kept : c.loop-each.draft.scope.next + item_binders c.each-item.result + items_binders (drop (c.loop-each.each-index + 1) c.args.raw.now) ≤ most_numbers = omega (arith, more, c.loop-each.invariant.room) in
    rw c.in_ok-item.ensures.draft (record {
      rest = item_passed c.args.raw.now c.loop-each.each-index c.each-item.result within c.each-item.is c.loop-each.draft _ c.loop-each.invariant.rest c.in_ok-item.ensures.passes;
      made = c.loop-each.invariant.made ∙ next_with_items c.args.raw.now c.loop-each.each-index c.each-item.result within c.each-item.is c.loop-each.draft;
      room = rw used kept;
    })

pub returns-clause-passes : goal.returns-clause-passes
returns-clause-passes c =
    let past : length c.args.raw.now ≤ c.loop-each.each-index = omega arith in
    c.loop-each.invariant.rest ∙ no_more_item_faults c.loop-each.draft c.args.raw.now c.loop-each.each-index past

pub returns-clause-draft : goal.returns-clause-draft
returns-clause-draft c =
    let past : length c.args.raw.now ≤ c.loop-each.each-index = omega arith in
    sym (c.loop-each.invariant.made ∙ no_more_items c.loop-each.draft c.args.raw.now c.loop-each.each-index past)
