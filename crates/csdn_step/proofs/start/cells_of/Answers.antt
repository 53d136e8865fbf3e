use Rattle.std.proofs.Common.{◌∙◌, ap₂, List}
use Rattle.csdn_core.specs.declared.terms.Term.{Term}
use Rattle.csdn_core.specs.Truth.{Structure, values}
use Rattle.net_structs.specs.Binds.{assignment}
use Rattle.csdn_step.proofs.start.cells_of.Goals as goal

pub returns : goal.returns
returns c =
    c.values.ensures
    ∙ ap₂ (λ (world : Structure) (terms : List Term). values world (assignment c.args.env.now.pairs) terms) c.whole-view.ensures c.as_slice.ensures.value
