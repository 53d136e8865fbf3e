use Rattle.std.proofs.Common.{length}
use Rattle.replay_listing.specs.Replays.{AreListed}
use Rattle.replay_listing.proofs.lines.put_outs.Given as goal

abbrev pub invariant-messages : goal.invariant-messages
invariant-messages l = AreListed l.sent l.rest l.fn.out.items l.out.items

abbrev pub decreases-messages : goal.decreases-messages
decreases-messages l = length l.rest
