use Rattle.std.proofs.Common.{◌≡◌, ◌++◌, length}
use Rattle.class_networks.specs.Judgements.{constants_in}
use Rattle.class_networks.specs.Numberings.{number_at}
use Rattle.class_networks.specs.Made.{judged_rows, rows_in}
use Rattle.class_networks.proofs.tuples.rows_of.Given as goal

abbrev pub invariant-relations : goal.invariant-relations
invariant-relations l =
    l.rows ++ rows_in (constants_in l.judgement) (number_at l.numbers) l.judgement.valuation.now l.rest ≡ judged_rows l.judgement l.numbers

abbrev pub decreases-relations : goal.decreases-relations
decreases-relations l = length l.rest
