use Rattle.std.proofs.Common.{◌≡◌, length}
use Rattle.fol_forms.specs.Names.{last_number, new_numbers}
use Rattle.fol_forms.proofs.renumber.new_number.Given as goal

abbrev pub invariant-pairs : goal.invariant-pairs
invariant-pairs l = last_number l.number l.rest l.var.0 ≡ new_numbers l.scope l.var.0

abbrev pub decreases-pairs : goal.decreases-pairs
decreases-pairs l = length l.rest
