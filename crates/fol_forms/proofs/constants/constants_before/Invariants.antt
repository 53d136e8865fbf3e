use Rattle.std.proofs.Common.{◌≡◌, ◌≤◌, length, take}
use Rattle.fol_forms.specs.Constants.{constants_from}
use Rattle.fol_forms.proofs.constants.constants_before.Given as goal

abbrev pub invariant-loop-constant : goal.invariant-loop-constant
invariant-loop-constant l =
    (l.count ≤ l.constant-index) × (l.count ≡ length (constants_from l.sort 0 (take l.constant-index l.first)))
