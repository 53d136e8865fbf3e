use Rattle.std.proofs.Common.{refl, sym, ◌∙◌}
use Rattle.csdn_text.specs.Machine.Takes.{done}
use Rattle.csdn_text.proofs.Steps.{last, this, other, by, not_by, then_token, then, no_token, no_part, after_token, exit}
use Rattle.csdn_text.proofs.parser.Parser.atom_rest.Goals as goal

pub returns-in_err-take-clause-parses : goal.returns-in_err-take-clause-parses
returns-in_err-take-clause-parses c = exit _ c.from_residual.ensures.1 (not_by (this (sym c.next_is.ensures ∙ c.if-next_is.true)) (no_token c.in_err-take.ensures.parses))

pub returns-in_err-term-clause-parses : goal.returns-in_err-term-clause-parses
returns-in_err-term-clause-parses c = exit _ c.from_residual-in_err-term.ensures.1 (not_by (this (sym c.next_is.ensures ∙ c.if-next_is.true)) (after_token c.in_ok-take.ensures.parses (no_part c.in_err-term.ensures.parses)))

pub returns-in_ok-term-clause-parses : goal.returns-in_ok-term-clause-parses
returns-in_ok-term-clause-parses c = by (this (sym c.next_is.ensures ∙ c.if-next_is.true)) (then_token c.in_ok-take.ensures.parses (then c.in_ok-term.ensures.parses done)) refl

pub returns-in_err-take-2-clause-parses : goal.returns-in_err-take-2-clause-parses
returns-in_err-take-2-clause-parses c = exit _ c.from_residual-in_err-take-2.ensures.1 (not_by (other (sym c.next_is.ensures ∙ c.if-next_is.false) (this (sym c.next_is-else-next_is.ensures ∙ c.if-next_is-2.true))) (no_token c.in_err-take-2.ensures.parses))

pub returns-in_err-fact-clause-parses : goal.returns-in_err-fact-clause-parses
returns-in_err-fact-clause-parses c = exit _ c.from_residual-in_err-fact.ensures.1 (not_by (other (sym c.next_is.ensures ∙ c.if-next_is.false) (this (sym c.next_is-else-next_is.ensures ∙ c.if-next_is-2.true))) (after_token c.in_ok-take-2.ensures.parses (no_part c.in_err-fact.ensures.parses)))

pub returns-in_ok-fact-clause-parses : goal.returns-in_ok-fact-clause-parses
returns-in_ok-fact-clause-parses c = by (other (sym c.next_is.ensures ∙ c.if-next_is.false) (this (sym c.next_is-else-next_is.ensures ∙ c.if-next_is-2.true))) (then_token c.in_ok-take-2.ensures.parses (then c.in_ok-fact.ensures.parses done)) refl

pub returns-in_err-row-clause-parses : goal.returns-in_err-row-clause-parses
returns-in_err-row-clause-parses c = exit _ c.from_residual-in_err-row.ensures.1 (not_by (other (sym c.next_is.ensures ∙ c.if-next_is.false) (other (sym c.next_is-else-next_is.ensures ∙ c.if-next_is-2.false) last)) (no_part c.in_err-row.ensures.parses))

pub returns-in_ok-row-clause-parses : goal.returns-in_ok-row-clause-parses
returns-in_ok-row-clause-parses c = by (other (sym c.next_is.ensures ∙ c.if-next_is.false) (other (sym c.next_is-else-next_is.ensures ∙ c.if-next_is-2.false) last)) (then c.in_ok-row.ensures.parses done) refl
