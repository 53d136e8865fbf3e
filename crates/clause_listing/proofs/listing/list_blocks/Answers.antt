use Rattle.clause_listing.proofs.Said.{and_true, and_false, kept_on, kept_whole}
use Rattle.clause_listing.proofs.listing.list_blocks.Goals as goal

pub all-preserved-then-all_accepted : goal.all-preserved-then-all_accepted
all-preserved-then-all_accepted c =
    kept_on c.args.blocks.now c.all.rest.now c.block-item.result c.all.text.items c.put_block.new.out.items c.all.all_accepted c.in_ok-good.good c.in_ok-good.good c.in-len1-up.len_at_least c.block-item.is c.all.invariant
    c.in_ok-good.ensures.text c.in_ok-good.ensures.answer (and_true c.all.all_accepted c.in_ok-good.good c.if-all_accepted.true)

pub all-preserved : goal.all-preserved
all-preserved c =
    kept_on c.args.blocks.now c.all.rest.now c.block-item.result c.all.text.items c.put_block.new.out.items c.all.all_accepted c.in_ok-good.good c.all.all_accepted c.in-len1-up.len_at_least c.block-item.is c.all.invariant
    c.in_ok-good.ensures.text c.in_ok-good.ensures.answer (and_false c.all.all_accepted c.in_ok-good.good c.if-all_accepted.false)

pub returns-clause-text : goal.returns-clause-text
returns-clause-text c = kept_whole c.args.blocks.now c.all.rest.now c.all.text.items c.all.all_accepted c.in_default.len_below c.all.invariant
