use Rattle.csdn_core.specs.SortedIn.{any_relation}
use Rattle.csdn_core.proofs.Agreement.{sentence-same}
use Rattle.csdn_core.proofs.run_laws.truth_looks_at_elements.Goals as goal

pub returns : goal.returns
returns c = λ P N network x y agree packet p sorted. sentence-same P N network x y agree packet any_relation p sorted
