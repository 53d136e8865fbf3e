use Rattle.std.proofs.Common.{◌∙◌, ap}
use Rattle.csdn_core.specs.Truth.{Structure, truth as truth_of}
use Rattle.net_structs.specs.Binds.{assignment}
use Rattle.net_structs.proofs.truth.truth.Goals as goal

pub returns-clause-value : goal.returns-clause-value
returns-clause-value c = c.is_true.ensures.value ∙ ap (λ (world : Structure). truth_of world c.args.formula.now (assignment c.args.env.now.pairs)) c.whole-view.ensures
