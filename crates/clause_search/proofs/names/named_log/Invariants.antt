use Rattle.std.proofs.Common.{◌≡◌, map, take}
use Rattle.clause_search.specs.Names.{named_step}
use Rattle.clause_search.proofs.names.named_log.Given as goal

abbrev pub invariant-steps : goal.invariant-steps
invariant-steps l = l.found ≡ map (named_step l.names) (take l.at l.log)
