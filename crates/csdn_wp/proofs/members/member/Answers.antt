use Rattle.std.proofs.Common.{◌≤◌, ◌∙◌, sym, ap, subst}
use Rattle.csdn_core.specs.Nodes.{nodes}
use Rattle.fol_forms.specs.Replace.{fix_packet}
use Rattle.csdn_wp.specs.EventPreconditions.{member}
use Rattle.csdn_wp.proofs.Making.{refused_form}
use Rattle.csdn_wp.proofs.Membering.{refused_inside}
use Rattle.csdn_wp.proofs.Grows.{member_grows}
use Rattle.csdn_wp.proofs.members.member.Goals as goal

pub returns-in_err-fix_packet : goal.returns-in_err-fix_packet
returns-in_err-fix_packet c =
    refused_form c.args.room (fix_packet c.args.post.now c.terms_of.result) _ c.in_err-fix_packet.field-0.0 c.from_residual.result c.requires c.from_residual.ensures.1 c.in_err-fix_packet.ensures.large
    (subst (λ ts. nodes (fix_packet c.args.post.now ts) ≤ nodes (member c.args.earlier.now c.args.vars c.args.port c.args.body.now c.args.post.now)) (sym c.terms_of.ensures) (member_grows c.args.earlier.now c.args.vars c.args.port c.args.body.now c.args.post.now))

pub returns-in_err-inner : goal.returns-in_err-inner
returns-in_err-inner c =
    refused_inside c.args.room c.args.earlier.now c.args.vars c.args.port c.args.body.now c.args.post.now c.in_ok-guard.guard c.get.result.now c.in_err-inner.field-0.0 c.from_residual-in_err-inner.result
    c.in_ok-guard.ensures (c.get.ensures ∙ c.in_ok-fixed.ensures ∙ c.in_ok-fix_packet.ensures.form ∙ ap (fix_packet c.args.post.now) c.terms_of.ensures) c.from_residual-in_err-inner.ensures.1 c.in_err-inner.ensures
