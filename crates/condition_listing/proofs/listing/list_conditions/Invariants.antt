use Rattle.csdn_conditions.specs.Conditions.{conditions}
use Rattle.condition_listing.proofs.Listed.{GoesOn}
use Rattle.condition_listing.proofs.listing.list_conditions.Given as goal

abbrev pub invariant-conditions : goal.invariant-conditions
invariant-conditions l = GoesOn l.program l.size (conditions l.program l.level) l.index l.out.items
