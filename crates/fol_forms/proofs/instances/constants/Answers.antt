use Rattle.std.proofs.Common.{◌∙◌, ◌+◌, ap, ap₂, max, length}
use Rattle.fol_forms.specs.Constants.{need}
use Rattle.fol_forms.specs.Forms.{form_of}
use Rattle.fol_forms.specs.Constants.{names_of}
use Rattle.fol_forms.specs.Limits.{capped}
use Rattle.fol_forms.proofs.Capped.{capped-constants}
use Rattle.fol_forms.proofs.instances.constants.Goals as goal

pub returns : goal.returns
returns c =
    c.max.ensures ∙ ap (λ z. max z 1) (c.sum.ensures ∙ ap₂ (λ a b. capped (a + b)) c.known-known.ensures c.need-need.ensures)
    ∙ capped-constants (length (names_of c.args.parts.now c.args.sort)) (need (form_of c.args.formula.now) c.args.sort)
