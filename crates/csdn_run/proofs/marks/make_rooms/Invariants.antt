use Rattle.std.proofs.Common.{◌≡◌, Bool, true, length}
use Rattle.std.specs.List.{list_all}
use Rattle.csdn_core.specs.declared.event.Match.{Match}
use Rattle.csdn_run.specs.Marked.{has_room, mark_of}
use Rattle.csdn_run.proofs.marks.make_rooms.Given as goal

abbrev pub invariant-keys : goal.invariant-keys
invariant-keys l =
    (mark_of l.marks ≡ mark_of l.fn.marks)
    × ((test : Match → Bool) → ((m : Match) → has_room l.marks m ≡ true → test m ≡ true) → list_all test l.rest ≡ true → list_all test l.keys ≡ true)

abbrev pub decreases-keys : goal.decreases-keys
decreases-keys l = length l.rest
