use Rattle.std.proofs.Common.{◌-◌, length}
use Rattle.clause_log.specs.Literals.{truths}
use Rattle.clause_search.proofs.NameLaws.{IsNamedUpTo}
use Rattle.clause_search.proofs.names.named_trues.Given as goal

abbrev pub invariant-names : goal.invariant-names
invariant-names l = IsNamedUpTo l.names (truths l.valuation) l.trues.items l.at

abbrev pub decreases-names : goal.decreases-names
decreases-names l = length l.names - l.at
