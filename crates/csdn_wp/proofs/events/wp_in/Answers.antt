use Rattle.std.proofs.Common.{◌∙◌, ap, subst}
use Rattle.fol_forms.specs.Limits.{most_nodes}
use Rattle.csdn_wp.specs.Makes.{Makes}
use Rattle.csdn_wp.proofs.Eventing.{in_is, in_refused}
use Rattle.csdn_wp.proofs.events.wp_in.Goals as goal

pub returns-in_err-renumbered : goal.returns-in_err-renumbered
returns-in_err-renumbered c = in_refused c.args.program.now c.args.post.now c.in_err-renumbered.field-0.0 c.from_residual.result c.from_residual.ensures.1 c.in_err-renumbered.ensures

pub returns : goal.returns
returns c =
    subst (λ p. Makes most_nodes p c.members.result)
    (in_is c.args.program.now c.args.post.now c.get.result.now c.as_slice-handlers.result.now c.new-earlier.result.items
    (c.as_slice-handlers.ensures ∙ ap (λ parts. parts.handlers) c.parts.ensures.value) c.new-earlier.ensures.items (c.get.ensures ∙ c.in_ok-post.ensures ∙ c.in_ok-renumbered.ensures.0))
    c.members.ensures
