use Rattle.std.proofs.Common.{◌≡◌, ◌++◌, length}
use Rattle.decision_laws.specs.Classes.{values_of}
use Rattle.decision_laws.specs.Numbers.{tuple_of}
use Rattle.class_networks.specs.Judgements.{constants_in}
use Rattle.class_networks.specs.Numberings.{number_at}
use Rattle.class_networks.specs.Made.{left_over}
use Rattle.class_networks.proofs.tuples.cells_of.Given as goal

abbrev pub invariant-sorts : goal.invariant-sorts
invariant-sorts l = record {
  left : left_over (constants_in l.judgement) l.rest l.left ≡ left_over (constants_in l.judgement) l.fn.sorts l.number;
  cells : l.cells ++ values_of (number_at l.numbers) l.rest (tuple_of (constants_in l.judgement) l.rest l.left)
      ≡ values_of (number_at l.numbers) l.fn.sorts (tuple_of (constants_in l.judgement) l.fn.sorts l.number);
}

abbrev pub decreases-sorts : goal.decreases-sorts
decreases-sorts l = length l.rest
