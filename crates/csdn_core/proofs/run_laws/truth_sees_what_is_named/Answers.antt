use Rattle.csdn_core.specs.Sorted.{IsAllowed}
use Rattle.csdn_core.proofs.Agreement.{truth_sees}
use Rattle.csdn_core.proofs.run_laws.truth_sees_what_is_named.Goals as goal

pub returns : goal.returns
returns c = λ S place M K fits agree scope p e d sorted both. truth_sees S (IsAllowed S place) M K fits agree scope p e d sorted both
