use Rattle.std.proofs.Common.{◌≡◌, ◌++◌, length, map}
use Rattle.fol_forms.specs.Replace.{same}
use Rattle.csdn_conditions.specs.Start.{rows_among}
use Rattle.csdn_conditions.proofs.start.are_rows.Given as goal

abbrev pub invariant-rows : goal.invariant-rows
invariant-rows l = l.members ++ map (same l.fn.terms) (rows_among l.rest l.fn.pred) ≡ map (same l.fn.terms) (rows_among l.rows l.fn.pred)

abbrev pub decreases-rows : goal.decreases-rows
decreases-rows l = length l.rest
