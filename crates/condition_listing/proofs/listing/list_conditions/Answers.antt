use Rattle.std.proofs.Common.{◌≤◌, length, arith}
use Rattle.std.proofs.lemmas.List.{drop_all}
use Rattle.csdn_conditions.specs.Conditions.{conditions}
use Rattle.condition_listing.proofs.Listed.{goes_on, ends, as_many}
use Rattle.condition_listing.proofs.listing.list_conditions.Goals as goal

pub conditions-preserved : goal.conditions-preserved
conditions-preserved c =
    let found = c.in_ok-put_condition.ensures in
    goes_on c.args.program.now c.args.size (conditions c.args.program.now c.args.level) c.conditions.index found.condition c.conditions.out.items c.put_condition.new.out.items found.there found.holds c.conditions.invariant

pub returns : goal.returns
returns c =
    let P = c.args.program.now in
    let cs = conditions P c.args.level in
    let many = as_many P c.args.level in
    let count = c.condition_count-count.ensures.count in
    let past : length cs ≤ c.conditions.index = omega (arith, many, count, c.conditions-test.false) in
    ends P c.args.size cs c.conditions.index c.conditions.out.items (drop_all c.conditions.index cs past) c.conditions.invariant
