use Rattle.std.proofs.Common.{◌≡◌, ◌++◌}
use Rattle.csdn_run.proofs.joins.listed.Given as goal

abbrev pub invariant-keys : goal.invariant-keys
invariant-keys l = l.matches ++ l.key-iterator ≡ l.keys.keys
