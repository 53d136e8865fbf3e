use Rattle.std.proofs.Common.{refl, sym, ◌∙◌, arith}
use Rattle.csdn_text.proofs.Steps.{last, this, not_by, no_part, no_part_by, exit, no_memory}
use Rattle.csdn_text.proofs.Loops.{items_from, items_on, items_end}
use Rattle.csdn_text.proofs.parser.Parser.program.Goals as goal

pub returns-in_err-first : goal.returns-in_err-first
returns-in_err-first c = exit _ c.from_residual.ensures.1 (not_by last (no_part c.in_err-first.ensures.parses))

pub returns-in_err-push : goal.returns-in_err-push
returns-in_err-push c = exit _ c.from_residual-in_err-push.ensures.1 (no_memory refl)

pub returns-in_err-next : goal.returns-in_err-next
returns-in_err-next c = exit _ c.from_residual-in_err-next.ensures.1 (c.more.invariant.fails _ _ (no_part_by (this (sym c.begins_item.ensures ∙ c.more-test.true)) (no_part c.in_err-next.ensures.parses)))

pub returns-in_err-push-2 : goal.returns-in_err-push-2
returns-in_err-push-2 c = exit _ c.from_residual-in_err-push-2.ensures.1 (no_memory refl)

pub returns : goal.returns
returns c = items_end _ c.more.invariant (sym c.begins_item.ensures ∙ c.more-test.false)

pub more-init : goal.more-init
more-init c = rw (c.in_ok-push.ensures.ok, c.new-items.ensures) (items_from c.in_ok-first.ensures.parses (omega (arith, c.in_ok-first.ensures.shorter)))

pub more-preserved : goal.more-preserved
more-preserved c = rw c.in_ok-push-2.ensures.ok (items_on _ c.more.invariant (sym c.begins_item.ensures ∙ c.more-test.true) c.in_ok-next.ensures.parses (omega (arith, c.in_ok-next.ensures.shorter)))
