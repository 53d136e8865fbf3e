use Rattle.std.proofs.Common.{◌∙◌, ap, ap₂, subst}
use Rattle.fol_forms.specs.Limits.{most_nodes}
use Rattle.fol_forms.specs.Replace.{drop_match, no_packet}
use Rattle.csdn_wp.specs.EventPreconditions.{terms_of, wp_expire}
use Rattle.csdn_wp.specs.Makes.{Makes}
use Rattle.csdn_wp.proofs.Making.{all_room, refused_form}
use Rattle.csdn_wp.proofs.Eventing.{expire_is, anew_refused, anew_grows_too, quiet_grows, dropped_grows}
use Rattle.csdn_wp.proofs.events.wp_expire.Goals as goal

pub returns-in_err-renumbered : goal.returns-in_err-renumbered
returns-in_err-renumbered c =
    anew_refused c.args.post.now (wp_expire c.args.post.now) c.in_err-renumbered.field-0.0 c.from_residual.result (anew_grows_too c.args.post.now) c.from_residual.ensures.1 c.in_err-renumbered.ensures

pub returns-in_err-no_packet : goal.returns-in_err-no_packet
returns-in_err-no_packet c =
    refused_form most_nodes (no_packet c.get.result.now) _ c.in_err-no_packet.field-0.0 c.from_residual-in_err-no_packet.result all_room c.from_residual-in_err-no_packet.ensures.1 c.in_err-no_packet.ensures.large
    (quiet_grows c.args.post.now c.get.result.now (c.get.ensures ∙ c.in_ok-post.ensures ∙ c.in_ok-renumbered.ensures.0))

pub returns-in_err-drop_match : goal.returns-in_err-drop_match
returns-in_err-drop_match c =
    let is_anew = c.get.ensures ∙ c.in_ok-post.ensures ∙ c.in_ok-renumbered.ensures.0 in
    let is_quiet = c.get-2.ensures ∙ c.in_ok-quiet.ensures ∙ c.in_ok-no_packet.ensures.form ∙ ap no_packet is_anew in
    refused_form most_nodes (drop_match c.get-2.result.now c.terms_of.result) _ c.in_err-drop_match.field-0.0 c.from_residual-in_err-drop_match.result all_room c.from_residual-in_err-drop_match.ensures.1 c.in_err-drop_match.ensures.large
    (dropped_grows c.args.post.now c.get-2.result.now c.terms_of.result is_quiet (c.terms_of.ensures ∙ ap terms_of c.first_vars.ensures))

pub returns : goal.returns
returns c =
    let is_anew = c.get.ensures ∙ c.in_ok-post.ensures ∙ c.in_ok-renumbered.ensures.0 in
    let is_quiet = c.get-2.ensures ∙ c.in_ok-quiet.ensures ∙ c.in_ok-no_packet.ensures.form ∙ ap no_packet is_anew in
    let is_later = c.in_ok-after.ensures ∙ c.in_ok-drop_match.ensures.form ∙ ap₂ drop_match is_quiet (c.terms_of.ensures ∙ ap terms_of c.first_vars.ensures) in
    subst (λ p. Makes most_nodes p c.for_rules.result) (expire_is c.args.post.now c.in_ok-after.after is_later) c.for_rules.ensures
