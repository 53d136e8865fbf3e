use Rattle.std.proofs.Common.{◌≡◌, ◌+◌, ◌≤◌, length}
use Rattle.replay_listing.specs.Refusals.{first_refused}
use Rattle.replay_listing.proofs.refusals.first_refused.Given as goal

abbrev pub invariant-notes : goal.invariant-notes
invariant-notes l =
    (first_refused l.program l.network l.number l.count l.rest ≡ first_refused l.program l.network 1 0 l.notes)
    × (l.number + length l.rest ≡ length l.notes + 1)
    × (l.count + length l.rest ≤ length l.notes)

abbrev pub decreases-notes : goal.decreases-notes
decreases-notes l = length l.rest
