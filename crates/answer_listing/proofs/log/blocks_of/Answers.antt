use Rattle.std.proofs.Common.{◌≡◌, ◌<◌, ◌≤◌, List, ap, sym, length, ◌∙◌, arith}
use Rattle.std.specs.Vec.Iter.{into_iter_items}
use Rattle.std.proofs.lemmas.List.{drop_all}
use Rattle.csdn_conditions.specs.Conditions.{conditions}
use Rattle.condition_listing.proofs.Listed.{as_many}
use Rattle.vericon_decide.specs.declared.verdict.Proof.{Proof}
use Rattle.answer_listing.proofs.Blocks.{some_proof, next_proof, later_proofs, goes_on, ends, one_more, nothing_left}
use Rattle.answer_listing.proofs.log.blocks_of.Goals as goal

pub returns-in_default-clause-blocks : goal.returns-in_default-clause-blocks
returns-in_default-clause-blocks c =
    let P = c.args.program.now in
    let n = c.args.level in
    let i = c.conditions.index in
    let many = as_many P n in
    let count = c.condition_count-count.ensures.count in
    let below : i < length (conditions P n) = omega (arith, many, count, c.conditions-test.true) in
    let counted = c.conditions.invariant.as_many in
    let empty : length (into_iter_items c.conditions.proofs_left) ≡ 0 = sym counted ∙ c.in_default.ensures.cases.0 in
    absurd (some_proof P n i below (into_iter_items c.conditions.proofs_left) c.conditions.invariant.left (nothing_left (into_iter_items c.conditions.proofs_left) empty))

pub block_of-requires-clause-proof : goal.block_of-requires-clause-proof
block_of-requires-clause-proof c =
    let P = c.args.program.now in
    let n = c.args.level in
    let i = c.conditions.index in
    let many = as_many P n in
    let count = c.condition_count-count.ensures.count in
    let below : i < length (conditions P n) = omega (arith, many, count, c.conditions-test.true) in
    next_proof P n i below (into_iter_items c.conditions.proofs_left) (into_iter_items c.next.new.self) c.in-Some.proof c.conditions.invariant.left c.in-Some.ensures.cases.0

pub conditions-preserved : goal.conditions-preserved
conditions-preserved c =
    let P = c.args.program.now in
    let n = c.args.level in
    let i = c.conditions.index in
    let many = as_many P n in
    let count = c.condition_count-count.ensures.count in
    let below : i < length (conditions P n) = omega (arith, many, count, c.conditions-test.true) in
    let steps = c.in-Some.ensures.cases.0 in
    let before = c.conditions.invariant.as_many in
    let one = c.in-Some.ensures.cases.1 in
    let shorter = ap (λ (ps : List Proof). length ps) steps in
    record {
      going = goes_on P n i c.in_ok-block.block c.conditions.blocks c.push.new.self c.in_ok-block.ensures.block c.in_ok-push.ensures.ok c.conditions.invariant.going;
      left = later_proofs P n i below (into_iter_items c.conditions.proofs_left) (into_iter_items c.next.new.self) c.in-Some.proof c.conditions.invariant.left steps;
      as_many = omega (arith, before, one, shorter);
      fit = one_more c.conditions.blocks c.push.new.self c.in_ok-block.block c.conditions.invariant.fit c.in_ok-block.ensures.fits c.in_ok-push.ensures.ok;
    }

pub returns-clause-blocks : goal.returns-clause-blocks
returns-clause-blocks c =
    let P = c.args.program.now in
    let cs = conditions P c.args.level in
    let many = as_many P c.args.level in
    let count = c.condition_count-count.ensures.count in
    let past : length cs ≤ c.conditions.index = omega (arith, many, count, c.conditions-test.false) in
    ends P cs c.conditions.index c.conditions.blocks (drop_all c.conditions.index cs past) c.conditions.invariant.going
