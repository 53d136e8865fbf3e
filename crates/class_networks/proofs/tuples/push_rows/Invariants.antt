use Rattle.std.proofs.Common.{◌≡◌, ◌++◌, length}
use Rattle.std.specs.Prelude.{flat_map}
use Rattle.class_networks.specs.Judgements.{constants_in}
use Rattle.class_networks.specs.Numberings.{number_at}
use Rattle.class_networks.specs.Made.{row_at}
use Rattle.class_networks.proofs.tuples.push_rows.Given as goal

abbrev pub invariant-atoms : goal.invariant-atoms
invariant-atoms l =
    l.rows ++ flat_map (row_at (constants_in l.judgement) (number_at l.numbers) l.used) l.rest
    ≡ l.fn.rows ++ flat_map (row_at (constants_in l.judgement) (number_at l.numbers) l.used) l.judgement.valuation.now

abbrev pub decreases-atoms : goal.decreases-atoms
decreases-atoms l = length l.rest
