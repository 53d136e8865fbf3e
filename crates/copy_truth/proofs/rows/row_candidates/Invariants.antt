use Rattle.std.proofs.Common.{◌≡◌, ℕ, true, false, length}
use Rattle.ground_inst.specs.Walk.{scope, ways_of}
use Rattle.copy_truth.specs.Candidates.{has_place}
use Rattle.copy_truth.specs.Early.{at_constant}
use Rattle.copy_truth.proofs.OpenTuples.{LooksOn}
use Rattle.copy_truth.proofs.rows.row_candidates.Given as goal

abbrev pub invariant-atoms : goal.invariant-atoms
invariant-atoms l =
    (k : ℕ) → has_place l.within k ≡ true → has_place l.found k ≡ false → LooksOn (ways_of l.r.names) (at_constant l.x k (scope l.env)) l.used l.terms l.r.trues.now l.rest

abbrev pub decreases-atoms : goal.decreases-atoms
decreases-atoms l = length l.rest
