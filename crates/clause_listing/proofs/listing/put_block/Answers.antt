use Rattle.std.proofs.Common.{◌++◌, ◌∙◌, ap}
use Rattle.clause_listing.proofs.Said.{answer_said}
use Rattle.clause_listing.proofs.listing.put_block.Goals as goal

pub returns-in_ok-put_answer-in-None-clause-text : goal.returns-in_ok-put_answer-in-None-clause-text
returns-in_ok-put_answer-in-None-clause-text c =
    answer_said c.args.block.now c.args.out.now.items c.put_word.new.out.items c.put_answer.new.out.items c.in-None.is (c.in_ok-put_word.ensures ∙ ap (λ z. c.args.out.now.items ++ z) c.as_slice.ensures) c.in_ok-put_answer-in-None.ensures
