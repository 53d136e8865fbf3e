use Rattle.std.proofs.Common.{codes}
use Rattle.std.proofs.lemmas.Result.{on_ok_weaker}
use Rattle.made_program.specs.Made.{relation}
use Rattle.made_program.proofs.Appended.{three}
use Rattle.made_program.proofs.lines.put_insertion.Goals as goal

pub returns : goal.returns
returns c =
    on_ok_weaker c.put_word-2.result
    (λ e. three c.args.out.now.items (codes "  ") (relation c.args.number) (codes ".insert(src);\n") c.put_word.new.out.items c.put_relation.new.out.items c.put_word-2.new.out.items
    c.in_ok-put_word.ensures c.in_ok-put_relation.ensures e)
    c.put_word-2.ensures
