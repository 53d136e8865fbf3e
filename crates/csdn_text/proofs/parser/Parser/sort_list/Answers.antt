use Rattle.std.proofs.Common.{refl, sym, ◌∙◌, arith}
use Rattle.csdn_text.specs.Machine.Takes.{done}
use Rattle.csdn_text.proofs.Steps.{last, this, other, by, not_by, no_token, no_part, no_part_by, after_token, exit, no_memory}
use Rattle.csdn_text.proofs.Loops.{sorts_from, sorts_on, sorts_end}
use Rattle.csdn_text.proofs.parser.Parser.sort_list.Goals as goal

pub returns-then-not-begins_sort-clause-parses : goal.returns-then-not-begins_sort-clause-parses
returns-then-not-begins_sort-clause-parses c = rw c.new-found.ensures (by (other (sym c.begins_sort.ensures ∙ c.if-not-begins_sort.true) last) done refl)

pub returns-in_err-first-clause-parses : goal.returns-in_err-first-clause-parses
returns-in_err-first-clause-parses c = exit _ c.from_residual.ensures.1 (not_by (this (sym c.begins_sort.ensures ∙ c.if-not-begins_sort.false)) (no_part c.in_err-first.ensures.parses))

pub returns-in_err-push-clause-parses : goal.returns-in_err-push-clause-parses
returns-in_err-push-clause-parses c = exit _ c.from_residual-in_err-push.ensures.1 (no_memory refl)

pub returns-in_err-take-clause-parses : goal.returns-in_err-take-clause-parses
returns-in_err-take-clause-parses c = exit _ c.from_residual-in_err-take.ensures.1 (c.more.invariant.fails _ _ (no_part_by (this (sym c.next_is.ensures ∙ c.more-test.true)) (no_token c.in_err-take.ensures.parses)))

pub returns-in_err-next-clause-parses : goal.returns-in_err-next-clause-parses
returns-in_err-next-clause-parses c = exit _ c.from_residual-in_err-next.ensures.1 (c.more.invariant.fails _ _ (no_part_by (this (sym c.next_is.ensures ∙ c.more-test.true)) (after_token c.in_ok-take.ensures.parses (no_part c.in_err-next.ensures.parses))))

pub returns-in_err-push-2-clause-parses : goal.returns-in_err-push-2-clause-parses
returns-in_err-push-2-clause-parses c = exit _ c.from_residual-in_err-push-2.ensures.1 (no_memory refl)

pub returns-clause-parses : goal.returns-clause-parses
returns-clause-parses c = sorts_end _ c.more.invariant (sym c.next_is.ensures ∙ c.more-test.false)

pub more-init : goal.more-init
more-init c = rw (c.in_ok-push.ensures.ok, c.new-found.ensures) (sorts_from (sym c.begins_sort.ensures ∙ c.if-not-begins_sort.false) c.in_ok-first.ensures.parses (omega (arith, c.in_ok-first.ensures.shorter)))

pub more-preserved : goal.more-preserved
more-preserved c = rw c.in_ok-push-2.ensures.ok (sorts_on _ c.more.invariant (sym c.next_is.ensures ∙ c.more-test.true) c.in_ok-take.ensures.parses c.in_ok-next.ensures.parses (omega (arith, c.in_ok-take.ensures.shorter, c.in_ok-next.ensures.shorter)))
