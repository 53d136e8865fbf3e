use Rattle.std.proofs.Common.{◌∙◌, ap, ap₂, sym}
use Rattle.fol_forms.specs.Counts.{count_of}
use Rattle.decision_laws.specs.Weights.{each_weight}
use Rattle.form_trees.proofs.TreeSteps.{no_need}
use Rattle.form_trees.proofs.extents.universal.Goals as goal

pub returns : goal.returns
returns c = λ n v s f count rectified i.
    record {
      nodes = c.in_ok-nodes.ensures ∙ ap₂ each_weight (sym count) i.nodes;
      need = λ t. ap (λ e. count_of e.need t) c.nothing.ensures ∙ no_need t;
      plain = λ is. record { rectified = rectified; universal = (i.plain is).universal };
    }
