use Rattle.clause_listing.proofs.Accepted.{accepted_again}
use Rattle.clause_listing.proofs.laws.answers_are_accepted.Goals as goal

pub returns : goal.returns
returns c = accepted_again
