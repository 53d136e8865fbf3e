use Rattle.std.proofs.Common.{◌+◌, ◌-◌, arith}
use Rattle.made_program.specs.Made.{declaration, for_each}
use Rattle.made_program.proofs.Appended.{all_numbers, one_more}
use Rattle.made_program.proofs.text.put_declarations.Goals as goal

pub relations-preserved : goal.relations-preserved
relations-preserved c =
    one_more declaration c.args.out.now.items c.relations.out.items c.put_declaration.new.out.items 1 c.relations.before (c.relations.before + 1) (c.relations.before + 1)
    c.relations.invariant c.in_ok-put_declaration.ensures (omega arith) (omega arith)

pub returns : goal.returns
unfolding for_each
returns c =
    all_numbers declaration c.args.out.now.items c.relations.out.items 1 c.relations.before (c.args.count + 1 - 1) c.relations.invariant
    (omega (arith, c.relations-test.false, c.relations.auto.before-end))
