use Rattle.std.proofs.Common.{◌≡◌, ◌+◌, ◌≤◌, length}
use Rattle.session_asks.specs.Told.{asks_of}
use Rattle.replay_listing.proofs.listing.place.Given as goal

abbrev pub invariant-entries : goal.invariant-entries
invariant-entries l =
    (l.place + length (asks_of l.session l.rest) ≡ length (asks_of l.session l.entries) + 1)
    × (l.place + length l.rest ≤ length l.entries + 1)

abbrev pub decreases-entries : goal.decreases-entries
decreases-entries l = length l.rest
