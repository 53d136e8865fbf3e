use Rattle.csdn_core.proofs.TruthSteps.{truth-Forall, truth-Exists}
use Rattle.net_structs.proofs.Binding.{extended-push}
use Rattle.net_structs.proofs.truth.+truth.Goals as goal

pub is_true-returns-in-Forall-clause-value : goal.is_true-returns-in-Forall-clause-value
is_true-returns-in-Forall-clause-value t c = rw (c.is_true_of_all.ensures.value, c.in-Forall.is, c.get-in-Forall.ensures, truth-Forall)

pub is_true-returns-in-Exists-clause-value : goal.is_true-returns-in-Exists-clause-value
is_true-returns-in-Exists-clause-value t c = rw (c.is_true_of_some.ensures.value, c.in-Exists.is, c.get-in-Exists.ensures, truth-Exists)

pub is_true_of-returns-clause-value : goal.is_true_of-returns-clause-value
is_true_of-returns-clause-value t c = rw (c.is_true-is_true.ensures.value, c.push.ensures.pairs, extended-push)
