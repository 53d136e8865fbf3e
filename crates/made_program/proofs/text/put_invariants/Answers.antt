use Rattle.std.proofs.Common.{◌+◌, ◌-◌, arith}
use Rattle.made_program.specs.Made.{invariant, for_each}
use Rattle.made_program.proofs.Appended.{all_numbers, one_more}
use Rattle.made_program.proofs.text.put_invariants.Goals as goal

pub relations-preserved : goal.relations-preserved
relations-preserved c = (
  one_more invariant c.args.out.now.items c.relations.out.items c.put_invariant.new.out.items 2 (c.relations.before - 1) (c.relations.before + 1 - 1) (c.relations.before + 1)
      c.relations.invariant.0 c.in_ok-put_invariant.ensures (omega (arith, c.relations.auto.before)) (omega (arith, c.relations.auto.before)),
  omega (arith, c.relations-test.true),
)

pub returns : goal.returns
unfolding for_each
returns c =
    all_numbers invariant c.args.out.now.items c.relations.out.items 2 (c.relations.before - 1) (c.args.count + 1 - 2) c.relations.invariant.0
    (grind (arith, c.relations-test.false, c.relations.invariant.1, c.relations.auto.before, c.relations.auto.before-end))
