use Rattle.std.proofs.Common.{refl, sym, ◌∙◌}
use Rattle.csdn_text.specs.Machine.Takes.{done}
use Rattle.csdn_text.proofs.Steps.{last, this, other, by, not_by, then_token, no_token, exit}
use Rattle.csdn_text.proofs.parser.Parser.sort.Goals as goal

pub returns-in_err-take-clause-parses : goal.returns-in_err-take-clause-parses
returns-in_err-take-clause-parses c = exit _ c.from_residual.ensures.1 (not_by (this (sym c.next_is.ensures ∙ c.if-next_is.true)) (no_token c.in_err-take.ensures.parses))

pub returns-in_ok-take-clause-parses : goal.returns-in_ok-take-clause-parses
returns-in_ok-take-clause-parses c = by (this (sym c.next_is.ensures ∙ c.if-next_is.true)) (then_token c.in_ok-take.ensures.parses done) refl

pub returns-in_err-take-2-clause-parses : goal.returns-in_err-take-2-clause-parses
returns-in_err-take-2-clause-parses c = exit _ c.from_residual-in_err-take-2.ensures.1 (not_by (other (sym c.next_is.ensures ∙ c.if-next_is.false) (this (sym c.next_is-else-next_is.ensures ∙ c.if-next_is-2.true))) (no_token c.in_err-take-2.ensures.parses))

pub returns-in_ok-take-2-clause-parses : goal.returns-in_ok-take-2-clause-parses
returns-in_ok-take-2-clause-parses c = by (other (sym c.next_is.ensures ∙ c.if-next_is.false) (this (sym c.next_is-else-next_is.ensures ∙ c.if-next_is-2.true))) (then_token c.in_ok-take-2.ensures.parses done) refl

pub returns-in_err-take-3-clause-parses : goal.returns-in_err-take-3-clause-parses
returns-in_err-take-3-clause-parses c = exit _ c.from_residual-in_err-take-3.ensures.1 (not_by (other (sym c.next_is.ensures ∙ c.if-next_is.false) (other (sym c.next_is-else-next_is.ensures ∙ c.if-next_is-2.false) last)) (no_token c.in_err-take-3.ensures.parses))

pub returns-in_ok-take-3-clause-parses : goal.returns-in_ok-take-3-clause-parses
returns-in_ok-take-3-clause-parses c = by (other (sym c.next_is.ensures ∙ c.if-next_is.false) (other (sym c.next_is-else-next_is.ensures ∙ c.if-next_is-2.false) last)) (then_token c.in_ok-take-3.ensures.parses done) refl
