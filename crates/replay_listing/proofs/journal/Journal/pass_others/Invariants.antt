use Rattle.std.proofs.Common.{length}
use Rattle.replay_listing.specs.Journals.{Passes}
use Rattle.replay_listing.proofs.journal.Journal.pass_others.Given as goal

abbrev pub invariant-notes : goal.invariant-notes
invariant-notes l = Passes l.fn.self l.self

abbrev pub decreases-notes : goal.decreases-notes
decreases-notes l = length l.self.rest.now
