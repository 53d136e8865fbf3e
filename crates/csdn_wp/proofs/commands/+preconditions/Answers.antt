use Rattle.std.proofs.Common.{◌+◌, ◌<◌, ◌∙◌, ap, sym, subst}
use Rattle.csdn_core.specs.declared.syntax.Formula.TheVariants.{Not, And, Implies, Exists, Forall}
use Rattle.csdn_core.specs.Nodes.{nodes}
use Rattle.csdn_wp.specs.Preconditions.{wp}
use Rattle.csdn_wp.proofs.Making.{refused_part, refused_room, joins-And, joins-Implies, first_refused, second_refused, both_fit, each_refused, each_no_room, each_fits, second_no_room, first_too_large, sequence_refused}
use Rattle.csdn_wp.proofs.commands.+preconditions.Goals as goal

pub of_sequence-returns-in_err-precondition : goal.of_sequence-returns-in_err-precondition
of_sequence-returns-in_err-precondition t c =
    refused_part c.args.room c.args.room (wp c.args.b.now c.args.post.now) _ c.in_err-precondition.field-0.0 c.from_residual.result c.from_residual.ensures.1 c.in_err-precondition.ensures
    (sequence_refused c.args.room c.args.a.now (wp c.args.b.now c.args.post.now))

pub under-returns-in_err-left : goal.under-returns-in_err-left
under-returns-in_err-left t c =
    refused_room (nodes c.get.result.now + 1) c.args.room _ c.in_err-left.field-0.0 c.from_residual.result c.from_residual.ensures.1 c.in_err-left.ensures
    (first_refused Implies joins-Implies c.args.room c.args.condition (wp c.args.command.now c.args.post.now) c.get.result.now c.get.ensures)

pub under-returns-in_err-precondition : goal.under-returns-in_err-precondition
under-returns-in_err-precondition t c =
    refused_part c.in_ok-left.left c.args.room (wp c.args.command.now c.args.post.now) _ c.in_err-precondition.field-0.0 c.from_residual-in_err-precondition.result c.from_residual-in_err-precondition.ensures.1 c.in_err-precondition.ensures
    (second_refused Implies joins-Implies c.args.room c.args.condition (wp c.args.command.now c.args.post.now) c.get.result.now c.get.ensures c.in_ok-left.left c.in_ok-left.ensures)

pub under-returns : goal.under-returns
under-returns t c = (
  ap (λ w. Implies c.args.condition w) (c.in_ok-after.ensures ∙ c.in_ok-precondition.ensures.0),
  both_fit Implies joins-Implies c.args.room c.args.condition (wp c.args.command.now c.args.post.now) c.get.result.now c.get.ensures c.in_ok-left.left c.in_ok-left.ensures c.in_ok-precondition.ensures.1,
)

pub under_each-returns-in_err-left : goal.under_each-returns-in_err-left
under_each-returns-in_err-left t c =
    refused_room 1 c.args.room _ c.in_err-left.field-0.0 c.from_residual.result c.from_residual.ensures.1 c.in_err-left.ensures
    (each_no_room c.args.room c.args.bind.var c.args.bind.sort (Implies c.args.condition (wp c.args.command.now c.args.post.now)))

pub under_each-returns-in_err-under : goal.under_each-returns-in_err-under
under_each-returns-in_err-under t c =
    refused_part c.in_ok-left.left c.args.room (Implies c.args.condition (wp c.args.command.now c.args.post.now)) _ c.in_err-under.field-0.0 c.from_residual-in_err-under.result c.from_residual-in_err-under.ensures.1 c.in_err-under.ensures
    (each_refused c.args.room c.args.bind.var c.args.bind.sort (Implies c.args.condition (wp c.args.command.now c.args.post.now)) c.in_ok-left.left c.in_ok-left.ensures)

pub under_each-returns : goal.under_each-returns
under_each-returns t c = (
  ap (λ w. Forall c.args.bind.var c.args.bind.sort w) (c.in_ok-each.ensures ∙ c.in_ok-under.ensures.0),
  each_fits c.args.room c.args.bind.var c.args.bind.sort (Implies c.args.condition (wp c.args.command.now c.args.post.now)) c.in_ok-left.left c.in_ok-left.ensures c.in_ok-under.ensures.1,
)

pub and_under-returns-in_err-left : goal.and_under-returns-in_err-left
and_under-returns-in_err-left t c =
    refused_room (nodes c.get.result.now + 1) c.args.room _ c.in_err-left.field-0.0 c.from_residual.result c.from_residual.ensures.1 c.in_err-left.ensures
    (first_refused And joins-And c.args.room c.args.first (Implies c.args.condition (wp c.args.command.now c.args.post.now)) c.get.result.now c.get.ensures)

pub and_under-returns-in_err-under : goal.and_under-returns-in_err-under
and_under-returns-in_err-under t c =
    refused_part c.in_ok-left.left c.args.room (Implies c.args.condition (wp c.args.command.now c.args.post.now)) _ c.in_err-under.field-0.0 c.from_residual-in_err-under.result c.from_residual-in_err-under.ensures.1 c.in_err-under.ensures
    (second_refused And joins-And c.args.room c.args.first (Implies c.args.condition (wp c.args.command.now c.args.post.now)) c.get.result.now c.get.ensures c.in_ok-left.left c.in_ok-left.ensures)

pub and_under-returns : goal.and_under-returns
and_under-returns t c = (
  ap (λ w. And c.args.first w) (c.in_ok-second.ensures ∙ c.in_ok-under.ensures.0),
  both_fit And joins-And c.args.room c.args.first (Implies c.args.condition (wp c.args.command.now c.args.post.now)) c.get.result.now c.get.ensures c.in_ok-left.left c.in_ok-left.ensures c.in_ok-under.ensures.1,
)

pub of_conditional-returns-in_err-left : goal.of_conditional-returns-in_err-left
of_conditional-returns-in_err-left t c =
    refused_room (nodes c.args.post.now + 1) c.args.room _ c.in_err-left.field-0.0 c.from_residual.result c.from_residual.ensures.1 c.in_err-left.ensures
    (second_no_room c.args.room (Implies c.args.p.now (wp c.args.a.now c.args.post.now)) (Not c.args.p.now) c.args.b.now c.args.post.now)

pub of_conditional-returns-in_err-under : goal.of_conditional-returns-in_err-under
of_conditional-returns-in_err-under t c =
    refused_part c.in_ok-left.left c.args.room (Implies c.in_ok-copied.field-0 (wp c.args.a.now c.args.post.now)) _ c.in_err-under.field-0.0 c.from_residual-in_err-under.result c.from_residual-in_err-under.ensures.1 c.in_err-under.ensures
    (subst (λ p. c.in_ok-left.left < nodes (Implies p (wp c.args.a.now c.args.post.now)) → c.args.room < nodes (And (Implies c.args.p.now (wp c.args.a.now c.args.post.now)) (Implies (Not c.args.p.now) (wp c.args.b.now c.args.post.now))))
    (sym c.in_ok-copied.ensures)
    (first_too_large c.args.room (Implies c.args.p.now (wp c.args.a.now c.args.post.now)) (Not c.args.p.now) c.args.b.now c.args.post.now c.in_ok-left.left c.in_ok-left.ensures))

pub of_choice-returns-in_err-left : goal.of_choice-returns-in_err-left
of_choice-returns-in_err-left t c =
    refused_room (nodes c.args.post.now + 1) c.args.room _ c.in_err-left.field-0.0 c.from_residual.result c.from_residual.ensures.1 c.in_err-left.ensures
    (second_no_room c.args.room (Forall c.args.bind.var c.args.bind.sort (Implies c.args.p.now (wp c.args.a.now c.args.post.now))) (Not (Exists c.args.bind.var c.args.bind.sort c.args.p.now)) c.args.b.now c.args.post.now)

pub of_choice-returns-in_err-under_each : goal.of_choice-returns-in_err-under_each
of_choice-returns-in_err-under_each t c =
    refused_part c.in_ok-left.left c.args.room (Forall c.args.bind.var c.args.bind.sort (Implies c.in_ok-copied.field-0 (wp c.args.a.now c.args.post.now))) _ c.in_err-under_each.field-0.0 c.from_residual-in_err-under_each.result
    c.from_residual-in_err-under_each.ensures.1 c.in_err-under_each.ensures
    (subst (λ p. c.in_ok-left.left < nodes (Forall c.args.bind.var c.args.bind.sort (Implies p (wp c.args.a.now c.args.post.now)))
    → c.args.room < nodes (And (Forall c.args.bind.var c.args.bind.sort (Implies c.args.p.now (wp c.args.a.now c.args.post.now))) (Implies (Not (Exists c.args.bind.var c.args.bind.sort c.args.p.now)) (wp c.args.b.now c.args.post.now))))
    (sym c.in_ok-copied.ensures)
    (first_too_large c.args.room (Forall c.args.bind.var c.args.bind.sort (Implies c.args.p.now (wp c.args.a.now c.args.post.now))) (Not (Exists c.args.bind.var c.args.bind.sort c.args.p.now)) c.args.b.now c.args.post.now c.in_ok-left.left c.in_ok-left.ensures))
