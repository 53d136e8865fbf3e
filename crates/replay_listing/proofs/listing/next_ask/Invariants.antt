use Rattle.std.proofs.Common.{◌≡◌, length}
use Rattle.replay_listing.specs.Journals.{noted}
use Rattle.replay_listing.specs.Tellings.{first_of}
use Rattle.session_asks.specs.Told.{asks_of}
use Rattle.replay_listing.proofs.listing.next_ask.Given as goal

abbrev pub invariant-notes : goal.invariant-notes
invariant-notes l = first_of (asks_of l.session (noted l.rest)) ≡ first_of (asks_of l.session (noted l.notes))

abbrev pub decreases-notes : goal.decreases-notes
decreases-notes l = length l.rest
