use Rattle.std.proofs.Common.{◌≡◌, length, ◌++◌}
use Rattle.run_listing.specs.Lines.{notes_of}
use Rattle.run_listing.proofs.listing.notes.Given as goal

abbrev pub invariant-entries : goal.invariant-entries
invariant-entries l = l.notes ++ notes_of l.rest ≡ notes_of l.fn.history

abbrev pub decreases-entries : goal.decreases-entries
decreases-entries l = length l.rest
