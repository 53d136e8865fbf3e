use Rattle.std.proofs.Common.{refl, sym, ◌∙◌}
use Rattle.csdn_text.specs.Machine.Takes.{done}
use Rattle.csdn_text.proofs.Steps.{last, this, other, by, not_by, then_token, then, no_token, no_part, after_token, after_part, exit}
use Rattle.csdn_text.proofs.parser.Parser.initial.Goals as goal

pub returns-in_err-take-clause-parses : goal.returns-in_err-take-clause-parses
returns-in_err-take-clause-parses c = exit _ c.from_residual.ensures.1 (not_by (this (sym c.next_is.ensures ∙ c.if-not-next_is.false)) (no_token c.in_err-take.ensures.parses))

pub returns-in_err-take-2-clause-parses : goal.returns-in_err-take-2-clause-parses
returns-in_err-take-2-clause-parses c = exit _ c.from_residual-in_err-take-2.ensures.1 (not_by (this (sym c.next_is.ensures ∙ c.if-not-next_is.false)) (after_token c.in_ok-take.ensures.parses (no_token c.in_err-take-2.ensures.parses)))

pub returns-in_err-rows-clause-parses : goal.returns-in_err-rows-clause-parses
returns-in_err-rows-clause-parses c = exit _ c.from_residual-in_err-rows.ensures.1 (not_by (this (sym c.next_is.ensures ∙ c.if-not-next_is.false)) (after_token c.in_ok-take.ensures.parses (after_token c.in_ok-take-2.ensures.parses (no_part c.in_err-rows.ensures.parses))))

pub returns-in_err-take-3-clause-parses : goal.returns-in_err-take-3-clause-parses
returns-in_err-take-3-clause-parses c = exit _ c.from_residual-in_err-take-3.ensures.1 (not_by (this (sym c.next_is.ensures ∙ c.if-not-next_is.false)) (after_token c.in_ok-take.ensures.parses (after_token c.in_ok-take-2.ensures.parses (after_part c.in_ok-rows.ensures.parses (no_token c.in_err-take-3.ensures.parses)))))

pub returns-then-not-next_is-clause-parses : goal.returns-then-not-next_is-clause-parses
returns-then-not-next_is-clause-parses c = by (other (sym c.next_is.ensures ∙ c.if-not-next_is.true) last) done (sym c.new.ensures)

pub returns-clause-parses : goal.returns-clause-parses
returns-clause-parses c = by (this (sym c.next_is.ensures ∙ c.if-not-next_is.false)) (then_token c.in_ok-take.ensures.parses (then_token c.in_ok-take-2.ensures.parses (then c.in_ok-rows.ensures.parses (then_token c.in_ok-take-3.ensures.parses done)))) refl
