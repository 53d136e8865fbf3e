use Rattle.std.proofs.Common.{refl, sym, ◌∙◌}
use Rattle.csdn_text.specs.Machine.Takes.{done}
use Rattle.csdn_text.proofs.Steps.{last, this, other, by, not_by, then_token, then, then_by, no_token, no_part, no_part_by, after_token, after_part, exit, no_memory, at_tier, at_kind, tail_goes, tail_ends}
use Rattle.csdn_text.proofs.parser.Parser.+formula.Goals as goal

pub formula-returns-in_err-take-clause-parses : goal.formula-returns-in_err-take-clause-parses
formula-returns-in_err-take-clause-parses t c = exit _ c.from_residual.ensures.1 (not_by (this (sym c.next_is.ensures ∙ c.if-next_is.true)) (no_token c.in_err-take.ensures.parses))

pub formula-returns-in_err-whole-clause-parses : goal.formula-returns-in_err-whole-clause-parses
formula-returns-in_err-whole-clause-parses t c = exit _ c.from_residual-in_err-whole.ensures.1 (not_by (this (sym c.next_is.ensures ∙ c.if-next_is.true)) (after_token c.in_ok-take.ensures.parses (no_part c.in_err-whole.ensures.parses)))

pub formula-returns-in_ok-whole-clause-parses : goal.formula-returns-in_ok-whole-clause-parses
formula-returns-in_ok-whole-clause-parses t c = by (this (sym c.next_is.ensures ∙ c.if-next_is.true)) (then_token c.in_ok-take.ensures.parses (then c.in_ok-whole.ensures.parses done)) refl

pub formula-returns-in_err-take-2-clause-parses : goal.formula-returns-in_err-take-2-clause-parses
formula-returns-in_err-take-2-clause-parses t c = exit _ c.from_residual-in_err-take-2.ensures.1 (not_by (other (sym c.next_is.ensures ∙ c.if-next_is.false) (this (sym c.next_is-else-next_is.ensures ∙ c.if-next_is-2.true))) (no_token c.in_err-take-2.ensures.parses))

pub formula-returns-in_err-whole-2-clause-parses : goal.formula-returns-in_err-whole-2-clause-parses
formula-returns-in_err-whole-2-clause-parses t c = exit _ c.from_residual-in_err-whole-2.ensures.1 (not_by (other (sym c.next_is.ensures ∙ c.if-next_is.false) (this (sym c.next_is-else-next_is.ensures ∙ c.if-next_is-2.true))) (after_token c.in_ok-take-2.ensures.parses (no_part c.in_err-whole-2.ensures.parses)))

pub formula-returns-in_ok-whole-2-clause-parses : goal.formula-returns-in_ok-whole-2-clause-parses
formula-returns-in_ok-whole-2-clause-parses t c = by (other (sym c.next_is.ensures ∙ c.if-next_is.false) (this (sym c.next_is-else-next_is.ensures ∙ c.if-next_is-2.true))) (then_token c.in_ok-take-2.ensures.parses (then c.in_ok-whole-2.ensures.parses done)) refl

pub formula-returns-in_err-whole-3-clause-parses : goal.formula-returns-in_err-whole-3-clause-parses
formula-returns-in_err-whole-3-clause-parses t c = exit _ c.from_residual-in_err-whole-3.ensures.1 (not_by (other (sym c.next_is.ensures ∙ c.if-next_is.false) (other (sym c.next_is-else-next_is.ensures ∙ c.if-next_is-2.false) last)) (no_part c.in_err-whole-3.ensures.parses))

pub formula-returns-in_ok-whole-3-clause-parses : goal.formula-returns-in_ok-whole-3-clause-parses
formula-returns-in_ok-whole-3-clause-parses t c = by (other (sym c.next_is.ensures ∙ c.if-next_is.false) (other (sym c.next_is-else-next_is.ensures ∙ c.if-next_is-2.false) last)) (then c.in_ok-whole-3.ensures.parses done) refl

pub binds-returns-in_err-name-clause-parses : goal.binds-returns-in_err-name-clause-parses
binds-returns-in_err-name-clause-parses t c = exit _ c.from_residual.ensures.1 (not_by last (no_part c.in_err-name.ensures.parses))

pub binds-returns-in_err-take-clause-parses : goal.binds-returns-in_err-take-clause-parses
binds-returns-in_err-take-clause-parses t c = exit _ c.from_residual-in_err-take.ensures.1 (not_by last (after_part c.in_ok-name.ensures.parses (no_token c.in_err-take.ensures.parses)))

pub binds-returns-in_err-sort-clause-parses : goal.binds-returns-in_err-sort-clause-parses
binds-returns-in_err-sort-clause-parses t c = exit _ c.from_residual-in_err-sort.ensures.1 (not_by last (after_part c.in_ok-name.ensures.parses (after_token c.in_ok-take.ensures.parses (no_part c.in_err-sort.ensures.parses))))

pub binds-returns-in_err-body-clause-parses : goal.binds-returns-in_err-body-clause-parses
binds-returns-in_err-body-clause-parses t c = exit _ c.from_residual-in_err-body.ensures.1 (not_by last (after_part c.in_ok-name.ensures.parses (after_token c.in_ok-take.ensures.parses (after_part c.in_ok-sort.ensures.parses (no_part c.in_err-body.ensures.parses)))))

pub binds-returns-in_err-whole-clause-parses : goal.binds-returns-in_err-whole-clause-parses
binds-returns-in_err-whole-clause-parses t c = exit _ c.from_residual-in_err-whole.ensures.1 (no_memory c.in_err-whole.ensures)

pub binds-returns-clause-parses : goal.binds-returns-clause-parses
binds-returns-clause-parses t c = by last (then c.in_ok-name.ensures.parses (then_token c.in_ok-take.ensures.parses (then c.in_ok-sort.ensures.parses (then c.in_ok-body.ensures.parses done)))) (sym c.in_ok-whole.ensures)

pub more_binds-returns-in_err-take-clause-parses : goal.more_binds-returns-in_err-take-clause-parses
more_binds-returns-in_err-take-clause-parses t c = exit _ c.from_residual.ensures.1 (not_by (this (sym c.next_is.ensures ∙ c.if-next_is.true)) (no_token c.in_err-take.ensures.parses))

pub more_binds-returns-in_err-whole-clause-parses : goal.more_binds-returns-in_err-whole-clause-parses
more_binds-returns-in_err-whole-clause-parses t c = exit _ c.from_residual-in_err-whole.ensures.1 (not_by (this (sym c.next_is.ensures ∙ c.if-next_is.true)) (after_token c.in_ok-take.ensures.parses (no_part c.in_err-whole.ensures.parses)))

pub more_binds-returns-in_ok-whole-clause-parses : goal.more_binds-returns-in_ok-whole-clause-parses
more_binds-returns-in_ok-whole-clause-parses t c = by (this (sym c.next_is.ensures ∙ c.if-next_is.true)) (then_token c.in_ok-take.ensures.parses (then c.in_ok-whole.ensures.parses done)) refl

pub more_binds-returns-in_err-take-2-clause-parses : goal.more_binds-returns-in_err-take-2-clause-parses
more_binds-returns-in_err-take-2-clause-parses t c = exit _ c.from_residual-in_err-take-2.ensures.1 (not_by (other (sym c.next_is.ensures ∙ c.if-next_is.false) last) (no_token c.in_err-take-2.ensures.parses))

pub more_binds-returns-in_err-whole-2-clause-parses : goal.more_binds-returns-in_err-whole-2-clause-parses
more_binds-returns-in_err-whole-2-clause-parses t c = exit _ c.from_residual-in_err-whole-2.ensures.1 (not_by (other (sym c.next_is.ensures ∙ c.if-next_is.false) last) (after_token c.in_ok-take-2.ensures.parses (no_part c.in_err-whole-2.ensures.parses)))

pub more_binds-returns-in_ok-whole-2-clause-parses : goal.more_binds-returns-in_ok-whole-2-clause-parses
more_binds-returns-in_ok-whole-2-clause-parses t c = by (other (sym c.next_is.ensures ∙ c.if-next_is.false) last) (then_token c.in_ok-take-2.ensures.parses (then c.in_ok-whole-2.ensures.parses done)) refl

pub joins-returns-in_err-left-clause-parses : goal.joins-returns-in_err-left-clause-parses
joins-returns-in_err-left-clause-parses t c = exit _ c.from_residual.ensures.1 (not_by last (no_part (at_tier c.left_of.ensures c.in_err-left.ensures.parses)))

pub joins-returns-then-not-next_is-clause-parses : goal.joins-returns-then-not-next_is-clause-parses
joins-returns-then-not-next_is-clause-parses t c = by last (then (at_tier c.left_of.ensures c.in_ok-left.ensures.parses) (then_by (tail_ends c.kind_of-kind.ensures (sym c.next_is.ensures ∙ c.if-not-next_is.true)) done done)) refl

pub joins-returns-in_err-take-clause-parses : goal.joins-returns-in_err-take-clause-parses
joins-returns-in_err-take-clause-parses t c = exit _ c.from_residual-in_err-take.ensures.1 (not_by last (after_part (at_tier c.left_of.ensures c.in_ok-left.ensures.parses) (no_part_by (tail_goes c.kind_of-kind.ensures (sym c.next_is.ensures ∙ c.if-not-next_is.false)) (no_token (at_kind c.kind_of-kind.ensures c.in_err-take.ensures.parses)))))

pub joins-returns-in_err-right-clause-parses : goal.joins-returns-in_err-right-clause-parses
joins-returns-in_err-right-clause-parses t c = exit _ c.from_residual-in_err-right.ensures.1 (not_by last (after_part (at_tier c.left_of.ensures c.in_ok-left.ensures.parses) (no_part_by (tail_goes c.kind_of-kind.ensures (sym c.next_is.ensures ∙ c.if-not-next_is.false)) (after_token (at_kind c.kind_of-kind.ensures c.in_ok-take.ensures.parses) (no_part (at_tier c.right_of.ensures c.in_err-right.ensures.parses))))))

pub joins-returns-in_err-whole-clause-parses : goal.joins-returns-in_err-whole-clause-parses
joins-returns-in_err-whole-clause-parses t c = exit _ c.from_residual-in_err-whole.ensures.1 (no_memory c.in_err-whole.ensures)

pub joins-returns-clause-parses : goal.joins-returns-clause-parses
joins-returns-clause-parses t c = by last (then (at_tier c.left_of.ensures c.in_ok-left.ensures.parses) (then_by (tail_goes c.kind_of-kind.ensures (sym c.next_is.ensures ∙ c.if-not-next_is.false)) (then_token (at_kind c.kind_of-kind.ensures c.in_ok-take.ensures.parses) (then (at_tier c.right_of.ensures c.in_ok-right.ensures.parses) done)) done)) (sym c.in_ok-whole.ensures)

pub unary-returns-in_err-take-clause-parses : goal.unary-returns-in_err-take-clause-parses
unary-returns-in_err-take-clause-parses t c = exit _ c.from_residual.ensures.1 (not_by (this (sym c.next_is.ensures ∙ c.if-next_is.true)) (no_token c.in_err-take.ensures.parses))

pub unary-returns-in_err-inner-clause-parses : goal.unary-returns-in_err-inner-clause-parses
unary-returns-in_err-inner-clause-parses t c = exit _ c.from_residual-in_err-inner.ensures.1 (not_by (this (sym c.next_is.ensures ∙ c.if-next_is.true)) (after_token c.in_ok-take.ensures.parses (no_part c.in_err-inner.ensures.parses)))

pub unary-returns-in_err-whole-clause-parses : goal.unary-returns-in_err-whole-clause-parses
unary-returns-in_err-whole-clause-parses t c = exit _ c.from_residual-in_err-whole.ensures.1 (no_memory c.in_err-whole.ensures)

pub unary-returns-in_ok-whole-clause-parses : goal.unary-returns-in_ok-whole-clause-parses
unary-returns-in_ok-whole-clause-parses t c = by (this (sym c.next_is.ensures ∙ c.if-next_is.true)) (then_token c.in_ok-take.ensures.parses (then c.in_ok-inner.ensures.parses done)) (sym c.in_ok-whole.ensures)

pub unary-returns-in_err-whole-2-clause-parses : goal.unary-returns-in_err-whole-2-clause-parses
unary-returns-in_err-whole-2-clause-parses t c = exit _ c.from_residual-in_err-whole-2.ensures.1 (not_by (other (sym c.next_is.ensures ∙ c.if-next_is.false) last) (no_part c.in_err-whole-2.ensures.parses))

pub unary-returns-in_ok-whole-2-clause-parses : goal.unary-returns-in_ok-whole-2-clause-parses
unary-returns-in_ok-whole-2-clause-parses t c = by (other (sym c.next_is.ensures ∙ c.if-next_is.false) last) (then c.in_ok-whole-2.ensures.parses done) refl

pub atom-returns-in_err-take-clause-parses : goal.atom-returns-in_err-take-clause-parses
atom-returns-in_err-take-clause-parses t c = exit _ c.from_residual.ensures.1 (not_by (this (sym c.next_is.ensures ∙ c.if-next_is.true)) (no_token c.in_err-take.ensures.parses))

pub atom-returns-in_ok-take-clause-parses : goal.atom-returns-in_ok-take-clause-parses
atom-returns-in_ok-take-clause-parses t c = by (this (sym c.next_is.ensures ∙ c.if-next_is.true)) (then_token c.in_ok-take.ensures.parses done) refl

pub atom-returns-in_err-take-2-clause-parses : goal.atom-returns-in_err-take-2-clause-parses
atom-returns-in_err-take-2-clause-parses t c = exit _ c.from_residual-in_err-take-2.ensures.1 (not_by (other (sym c.next_is.ensures ∙ c.if-next_is.false) (this (sym c.next_is-else-next_is.ensures ∙ c.if-next_is-2.true))) (no_token c.in_err-take-2.ensures.parses))

pub atom-returns-in_ok-take-2-clause-parses : goal.atom-returns-in_ok-take-2-clause-parses
atom-returns-in_ok-take-2-clause-parses t c = by (other (sym c.next_is.ensures ∙ c.if-next_is.false) (this (sym c.next_is-else-next_is.ensures ∙ c.if-next_is-2.true))) (then_token c.in_ok-take-2.ensures.parses done) refl

pub atom-returns-in_err-take-3-clause-parses : goal.atom-returns-in_err-take-3-clause-parses
atom-returns-in_err-take-3-clause-parses t c = exit _ c.from_residual-in_err-take-3.ensures.1 (not_by (other (sym c.next_is.ensures ∙ c.if-next_is.false) (other (sym c.next_is-else-next_is.ensures ∙ c.if-next_is-2.false) (this (sym c.next_is-else-next_is-2.ensures ∙ c.if-next_is-3.true)))) (no_token c.in_err-take-3.ensures.parses))

pub atom-returns-in_err-inner-clause-parses : goal.atom-returns-in_err-inner-clause-parses
atom-returns-in_err-inner-clause-parses t c = exit _ c.from_residual-in_err-inner.ensures.1 (not_by (other (sym c.next_is.ensures ∙ c.if-next_is.false) (other (sym c.next_is-else-next_is.ensures ∙ c.if-next_is-2.false) (this (sym c.next_is-else-next_is-2.ensures ∙ c.if-next_is-3.true)))) (after_token c.in_ok-take-3.ensures.parses (no_part c.in_err-inner.ensures.parses)))

pub atom-returns-in_err-take-4-clause-parses : goal.atom-returns-in_err-take-4-clause-parses
atom-returns-in_err-take-4-clause-parses t c = exit _ c.from_residual-in_err-take-4.ensures.1 (not_by (other (sym c.next_is.ensures ∙ c.if-next_is.false) (other (sym c.next_is-else-next_is.ensures ∙ c.if-next_is-2.false) (this (sym c.next_is-else-next_is-2.ensures ∙ c.if-next_is-3.true)))) (after_token c.in_ok-take-3.ensures.parses (after_part c.in_ok-inner.ensures.parses (no_token c.in_err-take-4.ensures.parses))))

pub atom-returns-in_ok-take-4-clause-parses : goal.atom-returns-in_ok-take-4-clause-parses
atom-returns-in_ok-take-4-clause-parses t c = by (other (sym c.next_is.ensures ∙ c.if-next_is.false) (other (sym c.next_is-else-next_is.ensures ∙ c.if-next_is-2.false) (this (sym c.next_is-else-next_is-2.ensures ∙ c.if-next_is-3.true)))) (then_token c.in_ok-take-3.ensures.parses (then c.in_ok-inner.ensures.parses (then_token c.in_ok-take-4.ensures.parses done))) refl

pub atom-returns-in_err-port-clause-parses : goal.atom-returns-in_err-port-clause-parses
atom-returns-in_err-port-clause-parses t c = exit _ c.from_residual-in_err-port.ensures.1 (not_by (other (sym c.next_is.ensures ∙ c.if-next_is.false) (other (sym c.next_is-else-next_is.ensures ∙ c.if-next_is-2.false) (other (sym c.next_is-else-next_is-2.ensures ∙ c.if-next_is-3.false) (this (sym c.begins.ensures ∙ c.if-begins.true))))) (no_part c.in_err-port.ensures.parses))

pub atom-returns-in_err-take-5-clause-parses : goal.atom-returns-in_err-take-5-clause-parses
atom-returns-in_err-take-5-clause-parses t c = exit _ c.from_residual-in_err-take-5.ensures.1 (not_by (other (sym c.next_is.ensures ∙ c.if-next_is.false) (other (sym c.next_is-else-next_is.ensures ∙ c.if-next_is-2.false) (other (sym c.next_is-else-next_is-2.ensures ∙ c.if-next_is-3.false) (this (sym c.begins.ensures ∙ c.if-begins.true))))) (after_part c.in_ok-port.ensures.parses (no_token c.in_err-take-5.ensures.parses)))

pub atom-returns-in_err-term-clause-parses : goal.atom-returns-in_err-term-clause-parses
atom-returns-in_err-term-clause-parses t c = exit _ c.from_residual-in_err-term.ensures.1 (not_by (other (sym c.next_is.ensures ∙ c.if-next_is.false) (other (sym c.next_is-else-next_is.ensures ∙ c.if-next_is-2.false) (other (sym c.next_is-else-next_is-2.ensures ∙ c.if-next_is-3.false) (this (sym c.begins.ensures ∙ c.if-begins.true))))) (after_part c.in_ok-port.ensures.parses (after_token c.in_ok-take-5.ensures.parses (no_part c.in_err-term.ensures.parses))))

pub atom-returns-in_ok-term-clause-parses : goal.atom-returns-in_ok-term-clause-parses
atom-returns-in_ok-term-clause-parses t c = by (other (sym c.next_is.ensures ∙ c.if-next_is.false) (other (sym c.next_is-else-next_is.ensures ∙ c.if-next_is-2.false) (other (sym c.next_is-else-next_is-2.ensures ∙ c.if-next_is-3.false) (this (sym c.begins.ensures ∙ c.if-begins.true))))) (then c.in_ok-port.ensures.parses (then_token c.in_ok-take-5.ensures.parses (then c.in_ok-term.ensures.parses done))) refl

pub atom-returns-in_err-name-clause-parses : goal.atom-returns-in_err-name-clause-parses
atom-returns-in_err-name-clause-parses t c = exit _ c.from_residual-in_err-name.ensures.1 (not_by (other (sym c.next_is.ensures ∙ c.if-next_is.false) (other (sym c.next_is-else-next_is.ensures ∙ c.if-next_is-2.false) (other (sym c.next_is-else-next_is-2.ensures ∙ c.if-next_is-3.false) (other (sym c.begins.ensures ∙ c.if-begins.false) last)))) (no_part c.in_err-name.ensures.parses))

pub atom-returns-in_err-rest-clause-parses : goal.atom-returns-in_err-rest-clause-parses
atom-returns-in_err-rest-clause-parses t c = exit _ c.from_residual-in_err-rest.ensures.1 (not_by (other (sym c.next_is.ensures ∙ c.if-next_is.false) (other (sym c.next_is-else-next_is.ensures ∙ c.if-next_is-2.false) (other (sym c.next_is-else-next_is-2.ensures ∙ c.if-next_is-3.false) (other (sym c.begins.ensures ∙ c.if-begins.false) last)))) (after_part c.in_ok-name.ensures.parses (no_part c.in_err-rest.ensures.parses)))

pub atom-returns-in_ok-rest-clause-parses : goal.atom-returns-in_ok-rest-clause-parses
atom-returns-in_ok-rest-clause-parses t c = by (other (sym c.next_is.ensures ∙ c.if-next_is.false) (other (sym c.next_is-else-next_is.ensures ∙ c.if-next_is-2.false) (other (sym c.next_is-else-next_is-2.ensures ∙ c.if-next_is-3.false) (other (sym c.begins.ensures ∙ c.if-begins.false) last)))) (then c.in_ok-name.ensures.parses (then c.in_ok-rest.ensures.parses done)) (sym c.atom_of.ensures)
