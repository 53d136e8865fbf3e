use Rattle.std.proofs.Common.{◌≡◌, ◌+◌, length}
use Rattle.decision_laws.specs.Classes.{position_in}
use Rattle.class_networks.proofs.classes.position.Given as goal

abbrev pub invariant-numbers : goal.invariant-numbers
invariant-numbers l = record {
  placed : l.place + position_in l.number l.rest ≡ position_in l.number l.fn.numbers;
  few : l.place + length l.rest ≡ length l.fn.numbers;
}

abbrev pub decreases-numbers : goal.decreases-numbers
decreases-numbers l = length l.rest
