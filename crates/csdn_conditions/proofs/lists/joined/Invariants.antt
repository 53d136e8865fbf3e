use Rattle.std.proofs.Common.{◌≡◌, [], ◌∷◌, ◌++◌, length}
use Rattle.csdn_conditions.specs.Lists.{joined}
use Rattle.csdn_conditions.proofs.lists.joined.Given as goal

abbrev pub invariant-join : goal.invariant-join
invariant-join l = joined l.fn.join (l.before ++ l.made ∷ []) ≡ joined l.fn.join l.fn.formulas

abbrev pub decreases-join : goal.decreases-join
decreases-join l = length l.before
