use Rattle.of10_listing.proofs.listing.first_line.Goals as goal

pub returns : goal.returns
returns c = c.line_of.ensures c.args.bytes.now c.in_ok-front.ensures
