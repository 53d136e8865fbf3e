use Rattle.of10_listing.proofs.Goes.{one_text}
use Rattle.of10_listing.proofs.listing.listings_have_one_text.Goals as goal

pub returns : goal.returns
returns c = one_text
