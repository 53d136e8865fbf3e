use Rattle.std.proofs.Common.{◌≡◌, ◌++◌, length}
use Rattle.replay_listing.specs.Replays.{hex}
use Rattle.replay_listing.proofs.hex.put_hex.Given as goal

abbrev pub invariant-bytes : goal.invariant-bytes
invariant-bytes l = l.out.items ++ hex l.rest ≡ l.fn.out.items ++ hex l.bytes

abbrev pub decreases-bytes : goal.decreases-bytes
decreases-bytes l = length l.rest
