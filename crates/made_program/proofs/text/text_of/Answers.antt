use Rattle.std.proofs.Common.{◌++◌, ◌∙◌, ap, codes}
use Rattle.made_program.specs.Made.{declaration, for_each, insertion, invariant, made_text}
use Rattle.made_program.proofs.Appended.{five}
use Rattle.made_program.proofs.text.text_of.Goals as goal

pub returns : goal.returns
unfolding made_text
returns c =
    let n = c.args.count in
    five (for_each 1 n declaration) (for_each 2 n invariant) (codes "pktIn(s, src->dst, i) {\n") (for_each 1 n insertion) (codes "}\n")
    c.put_declarations.new.out.items c.put_invariants.new.out.items c.put_word.new.out.items c.put_insertions.new.out.items c.put_word-2.new.out.items
    (c.in_ok-put_declarations.ensures ∙ ap (λ o. o ++ for_each 1 n declaration) c.new-out.ensures.items)
    c.in_ok-put_invariants.ensures c.in_ok-put_word.ensures c.in_ok-put_insertions.ensures c.in_ok-put_word-2.ensures
