use Rattle.of10_listing.proofs.Goes.{first_is}
use Rattle.of10_listing.proofs.listing.line_of.Goals as goal

pub returns-in-Message : goal.returns-in-Message
returns-in-Message c = λ bytes h. let k = rw c.in-Message.is at h in first_is bytes _ _ k c.kind.ensures c.xid.ensures
