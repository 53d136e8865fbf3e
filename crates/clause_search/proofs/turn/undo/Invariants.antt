use Rattle.std.proofs.Common.{◌≡◌, take, length}
use Rattle.clause_search.proofs.turn.undo.Given as goal

abbrev pub invariant-entries : goal.invariant-entries
invariant-entries l = take l.place l.trail ≡ take l.place l.fn.trail

abbrev pub decreases-entries : goal.decreases-entries
decreases-entries l = length l.trail
