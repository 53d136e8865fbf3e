use Rattle.std.proofs.Common.{◌+◌, ◌≤◌, ◌++◌, ◌∷◌, [], ◌∙◌, Err, ap, subst}
use Rattle.csdn_core.specs.declared.syntax.Formula.TheVariants.{And}
use Rattle.csdn_core.specs.Nodes.{nodes}
use Rattle.csdn_wp.specs.Makes.{Makes}
use Rattle.csdn_wp.specs.EventPreconditions.{members}
use Rattle.csdn_wp.proofs.Membering.{last_member, refused_first, first_alone, first_is, members-port}
use Rattle.csdn_wp.proofs.Making.{refused_part, refused_room, joins-And, first_refused, second_refused, both_fit}
use Rattle.csdn_wp.proofs.members.+members.Goals as goal

pub and_later-returns-in_err-left : goal.and_later-returns-in_err-left
and_later-returns-in_err-left t c =
    refused_room (nodes c.get.result.now + 1) c.args.room _ c.in_err-left.field-0.0 c.from_residual.result c.from_residual.ensures.1 c.in_err-left.ensures
    (first_refused And joins-And c.args.room c.args.first (members c.args.handlers.now (c.args.earlier.now.items ++ c.args.port ∷ []) c.args.post.now) c.get.result.now c.get.ensures)

pub and_later-returns-in_err-members : goal.and_later-returns-in_err-members
and_later-returns-in_err-members t c =
    refused_part c.in_ok-left.left c.args.room (members c.args.handlers.now (c.args.earlier.now.items ++ c.args.port ∷ []) c.args.post.now) _ c.in_err-members.field-0.0 c.from_residual-in_err-members.result c.from_residual-in_err-members.ensures.1
    (subst (λ ks. Makes c.in_ok-left.left (members c.args.handlers.now ks c.args.post.now) (Err c.in_err-members.field-0.0)) c.in_ok-remember.ensures.pushed c.in_err-members.ensures)
    (second_refused And joins-And c.args.room c.args.first (members c.args.handlers.now (c.args.earlier.now.items ++ c.args.port ∷ []) c.args.post.now) c.get.result.now c.get.ensures c.in_ok-left.left c.in_ok-left.ensures)

pub and_later-returns : goal.and_later-returns
and_later-returns t c =
    let is_rest = ap (λ ks. members c.args.handlers.now ks c.args.post.now) c.in_ok-remember.ensures.pushed in (
      ap (λ w. And c.args.first w) (c.in_ok-later.ensures ∙ c.in_ok-members.ensures.0 ∙ is_rest),
      both_fit And joins-And c.args.room c.args.first (members c.args.handlers.now (c.args.earlier.now.items ++ c.args.port ∷ []) c.args.post.now) c.get.result.now c.get.ensures c.in_ok-left.left c.in_ok-left.ensures
          (subst (λ p. nodes p ≤ c.in_ok-left.left) is_rest c.in_ok-members.ensures.1),
    )

pub members-returns-in-empty : goal.members-returns-in-empty
members-returns-in-empty t c =
    subst (λ p. Makes c.args.room p c.member.result)
    (last_member c.args.handlers.now c.args.earlier.now.items c.as_slice.result.now c.first_vars.result c.args.post.now c.in-empty.len_below c.as_slice.ensures.value c.first_vars.ensures) c.member.ensures

pub members_from-returns-in_err-first : goal.members_from-returns-in_err-first
members_from-returns-in_err-first t c =
    refused_first c.args.room c.args.handler.now c.args.rest.now c.args.earlier.now.items c.as_slice-ports.result.now c.handler_vars-vars.result c.args.post.now c.as_slice-ports.ensures.value c.handler_vars-vars.ensures
    c.in_err-first.field-0.0 c.from_residual.result c.from_residual.ensures.1 c.in_err-first.ensures

pub members_from-returns-in-None : goal.members_from-returns-in-None
members_from-returns-in-None t c =
    first_alone c.args.room c.args.handler.now c.args.rest.now c.args.earlier.now.items c.as_slice-ports.result.now c.handler_vars-vars.result c.args.post.now c.as_slice-ports.ensures.value c.handler_vars-vars.ensures
    c.in_ok-first.first c.in-None.is c.in_ok-first.ensures

pub members_from-returns-in_ok-first-in-Some : goal.members_from-returns-in_ok-first-in-Some
members_from-returns-in_ok-first-in-Some t c =
    let is = first_is c.args.room c.args.handler.now c.args.rest.now c.args.earlier.now.items c.as_slice-ports.result.now c.handler_vars-vars.result c.args.post.now c.as_slice-ports.ensures.value c.handler_vars-vars.ensures in
    subst (λ p. Makes c.args.room p c.and_later.result)
    (members-port c.args.handler.now c.args.rest.now c.args.earlier.now.items c.args.post.now c.in_ok-first-in-Some.first c.in-Some.port c.in-Some.is (c.in_ok-first-in-Some.ensures ∙ c.in_ok-first.ensures.0 ∙ is))
    c.and_later.ensures
