use Rattle.std.proofs.Common.{◌≡◌, true, length}
use Rattle.std.specs.List.{list_all}
use Rattle.csdn_run.specs.Marked.{has_room, mark_of}
use Rattle.csdn_run.specs.Standings.{with_marks}
use Rattle.csdn_run.proofs.marks.put_each.Given as goal

abbrev pub invariant-keys : goal.invariant-keys
invariant-keys l =
    (list_all (has_room l.marks) l.rest ≡ true)
    × (with_marks (mark_of l.marks) l.rest l.number ≡ with_marks (mark_of l.fn.marks) l.keys l.number)

abbrev pub decreases-keys : goal.decreases-keys
decreases-keys l = length l.rest
