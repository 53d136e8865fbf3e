use Rattle.trace_listing.proofs.Runs.{runs}
use Rattle.trace_listing.proofs.laws.traces_are_runs.Goals as goal

pub returns : goal.returns
returns c = λ P N j w y notes is. runs P N j w y notes is
