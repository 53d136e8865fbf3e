use Rattle.std.proofs.Common.{◌≡◌, length, None}
use Rattle.net_structs.specs.Binds.{found_in}
use Rattle.net_structs.proofs.env.Env.get.Given as goal

abbrev pub invariant-pairs : goal.invariant-pairs
invariant-pairs l = found_in l.found l.rest l.var ≡ found_in None l.self.pairs l.var

abbrev pub decreases-pairs : goal.decreases-pairs
decreases-pairs l = length l.rest
