use Rattle.std.proofs.Common.{◌≡◌, length}
use Rattle.csdn_run.specs.Marked.{mark_of}
use Rattle.csdn_run.specs.Standings.{with_marks}
use Rattle.trace_listing.proofs.progress.set_each.Given as goal

abbrev pub invariant-keys : goal.invariant-keys
invariant-keys l = with_marks (mark_of l.marks) l.rest l.number ≡ with_marks (mark_of l.fn.marks) l.keys l.number

abbrev pub decreases-keys : goal.decreases-keys
decreases-keys l = length l.rest
