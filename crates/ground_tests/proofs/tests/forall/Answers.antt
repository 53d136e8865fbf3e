use Rattle.std.proofs.Common.{◌∙◌}
use Rattle.std.proofs.lemmas.Result.{IfOk-weaker}
use Rattle.csdn_core.proofs.Shapes.{Forall-is}
use Rattle.decision_laws.specs.Example.{variable}
use Rattle.ground_tests.proofs.tests.forall.Goals as goal

pub returns : goal.returns
returns c = IfOk-weaker c.boxed.result _ _ (λ f e. e ∙ Forall-is (variable c.args.x) c.args.sort c.args.p) c.boxed.ensures
