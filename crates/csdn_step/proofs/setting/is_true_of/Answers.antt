use Rattle.net_structs.proofs.Binding.{extended-push}
use Rattle.csdn_step.proofs.setting.is_true_of.Goals as goal

pub returns-clause-value : goal.returns-clause-value
returns-clause-value c = rw (c.is_true-is_true.ensures.value, c.push.ensures.pairs, extended-push)
