use Rattle.std.proofs.Common.{◌∙◌, ap, ap₂, subst}
use Rattle.csdn_core.specs.declared.terms.Pred.TheVariants.{Sent}
use Rattle.fol_forms.specs.Limits.{most_nodes}
use Rattle.fol_forms.specs.Replace.{add_row, fix_packet}
use Rattle.csdn_wp.specs.EventPreconditions.{terms_of, wp_flow}
use Rattle.csdn_wp.specs.Makes.{Makes}
use Rattle.csdn_wp.proofs.Making.{all_room, refused_form}
use Rattle.csdn_wp.proofs.Eventing.{flow_is, anew_refused, anew_grows, fixed_grows, added_grows}
use Rattle.csdn_wp.proofs.events.wp_flow.Goals as goal

pub returns-in_err-renumbered : goal.returns-in_err-renumbered
returns-in_err-renumbered c =
    anew_refused c.args.post.now (wp_flow c.args.post.now) c.in_err-renumbered.field-0.0 c.from_residual.result (anew_grows c.args.post.now) c.from_residual.ensures.1 c.in_err-renumbered.ensures

pub returns-in_err-fix_packet : goal.returns-in_err-fix_packet
returns-in_err-fix_packet c =
    refused_form most_nodes (fix_packet c.get.result.now c.terms_of.result) _ c.in_err-fix_packet.field-0.0 c.from_residual-in_err-fix_packet.result all_room c.from_residual-in_err-fix_packet.ensures.1 c.in_err-fix_packet.ensures.large
    (fixed_grows c.args.post.now c.get.result.now c.terms_of.result (c.get.ensures ∙ c.in_ok-post.ensures ∙ c.in_ok-renumbered.ensures.0) (c.terms_of.ensures ∙ ap terms_of c.first_vars.ensures))

pub returns-in_err-add_row : goal.returns-in_err-add_row
returns-in_err-add_row c =
    let is_anew = c.get.ensures ∙ c.in_ok-post.ensures ∙ c.in_ok-renumbered.ensures.0 in
    let is_fixed = c.get-2.ensures ∙ c.in_ok-fixed.ensures ∙ c.in_ok-fix_packet.ensures.form ∙ ap₂ fix_packet is_anew (c.terms_of.ensures ∙ ap terms_of c.first_vars.ensures) in
    refused_form most_nodes (add_row c.get-2.result.now Sent c.flow_terms.result) _ c.in_err-add_row.field-0.0 c.from_residual-in_err-add_row.result all_room c.from_residual-in_err-add_row.ensures.1 c.in_err-add_row.ensures.large
    (added_grows c.args.post.now c.get-2.result.now c.flow_terms.result is_fixed c.flow_terms.ensures)

pub returns : goal.returns
returns c =
    let is_anew = c.get.ensures ∙ c.in_ok-post.ensures ∙ c.in_ok-renumbered.ensures.0 in
    let is_fixed = c.get-2.ensures ∙ c.in_ok-fixed.ensures ∙ c.in_ok-fix_packet.ensures.form ∙ ap₂ fix_packet is_anew (c.terms_of.ensures ∙ ap terms_of c.first_vars.ensures) in
    let is_later = c.in_ok-after.ensures ∙ c.in_ok-add_row.ensures.form ∙ ap₂ (λ p ts. add_row p Sent ts) is_fixed c.flow_terms.ensures in
    subst (λ p. Makes most_nodes p c.for_rules.result) (flow_is c.args.post.now c.in_ok-after.after is_later) c.for_rules.ensures
