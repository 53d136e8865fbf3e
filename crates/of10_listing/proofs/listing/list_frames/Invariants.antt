use Rattle.std.proofs.Common.{◌≡◌, ◌+◌, length}
use Rattle.of10_listing.specs.Listings.{IsKept}
use Rattle.of10_listing.proofs.listing.list_frames.Given as goal

abbrev pub invariant-frames : goal.invariant-frames
invariant-frames l = (l.at + length l.rest ≡ length l.bytes) × IsKept l.bytes l.at l.rest l.text.items

abbrev pub decreases-frames : goal.decreases-frames
decreases-frames l = length l.rest
