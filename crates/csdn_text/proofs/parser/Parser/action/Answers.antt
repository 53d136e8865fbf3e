use Rattle.std.proofs.Common.{refl, sym, ◌∙◌}
use Rattle.csdn_text.specs.Machine.Takes.{done}
use Rattle.csdn_text.proofs.Steps.{last, this, other, by, not_by, then_token, then, no_token, no_part, after_token, exit}
use Rattle.csdn_text.proofs.parser.Parser.action.Goals as goal

pub returns-in_err-take-clause-parses : goal.returns-in_err-take-clause-parses
returns-in_err-take-clause-parses c = exit _ c.from_residual.ensures.1 (not_by (this (sym c.next_is.ensures ∙ c.if-next_is.true)) (no_token c.in_err-take.ensures.parses))

pub returns-in_err-row-clause-parses : goal.returns-in_err-row-clause-parses
returns-in_err-row-clause-parses c = exit _ c.from_residual-in_err-row.ensures.1 (not_by (this (sym c.next_is.ensures ∙ c.if-next_is.true)) (after_token c.in_ok-take.ensures.parses (no_part c.in_err-row.ensures.parses)))

pub returns-in_ok-row-clause-parses : goal.returns-in_ok-row-clause-parses
returns-in_ok-row-clause-parses c = by (this (sym c.next_is.ensures ∙ c.if-next_is.true)) (then_token c.in_ok-take.ensures.parses (then c.in_ok-row.ensures.parses done)) refl

pub returns-in_err-take-2-clause-parses : goal.returns-in_err-take-2-clause-parses
returns-in_err-take-2-clause-parses c = exit _ c.from_residual-in_err-take-2.ensures.1 (not_by (other (sym c.next_is.ensures ∙ c.if-next_is.false) (this (sym c.next_is-else-next_is.ensures ∙ c.if-next_is-2.true))) (no_token c.in_err-take-2.ensures.parses))

pub returns-in_err-row-2-clause-parses : goal.returns-in_err-row-2-clause-parses
returns-in_err-row-2-clause-parses c = exit _ c.from_residual-in_err-row-2.ensures.1 (not_by (other (sym c.next_is.ensures ∙ c.if-next_is.false) (this (sym c.next_is-else-next_is.ensures ∙ c.if-next_is-2.true))) (after_token c.in_ok-take-2.ensures.parses (no_part c.in_err-row-2.ensures.parses)))

pub returns-in_ok-row-2-clause-parses : goal.returns-in_ok-row-2-clause-parses
returns-in_ok-row-2-clause-parses c = by (other (sym c.next_is.ensures ∙ c.if-next_is.false) (this (sym c.next_is-else-next_is.ensures ∙ c.if-next_is-2.true))) (then_token c.in_ok-take-2.ensures.parses (then c.in_ok-row-2.ensures.parses done)) refl

pub returns-in_err-take-3-clause-parses : goal.returns-in_err-take-3-clause-parses
returns-in_err-take-3-clause-parses c = exit _ c.from_residual-in_err-take-3.ensures.1 (not_by (other (sym c.next_is.ensures ∙ c.if-next_is.false) (other (sym c.next_is-else-next_is.ensures ∙ c.if-next_is-2.false) (this (sym c.next_is-else-next_is-2.ensures ∙ c.if-next_is-3.true)))) (no_token c.in_err-take-3.ensures.parses))

pub returns-in_err-flow-clause-parses : goal.returns-in_err-flow-clause-parses
returns-in_err-flow-clause-parses c = exit _ c.from_residual-in_err-flow.ensures.1 (not_by (other (sym c.next_is.ensures ∙ c.if-next_is.false) (other (sym c.next_is-else-next_is.ensures ∙ c.if-next_is-2.false) (this (sym c.next_is-else-next_is-2.ensures ∙ c.if-next_is-3.true)))) (after_token c.in_ok-take-3.ensures.parses (no_part c.in_err-flow.ensures.parses)))

pub returns-in_ok-flow-clause-parses : goal.returns-in_ok-flow-clause-parses
returns-in_ok-flow-clause-parses c = by (other (sym c.next_is.ensures ∙ c.if-next_is.false) (other (sym c.next_is-else-next_is.ensures ∙ c.if-next_is-2.false) (this (sym c.next_is-else-next_is-2.ensures ∙ c.if-next_is-3.true)))) (then_token c.in_ok-take-3.ensures.parses (then c.in_ok-flow.ensures.parses done)) refl

pub returns-in_err-take-4-clause-parses : goal.returns-in_err-take-4-clause-parses
returns-in_err-take-4-clause-parses c = exit _ c.from_residual-in_err-take-4.ensures.1 (not_by (other (sym c.next_is.ensures ∙ c.if-next_is.false) (other (sym c.next_is-else-next_is.ensures ∙ c.if-next_is-2.false) (other (sym c.next_is-else-next_is-2.ensures ∙ c.if-next_is-3.false) (this (sym c.next_is-else-next_is-3.ensures ∙ c.if-next_is-4.true))))) (no_token c.in_err-take-4.ensures.parses))

pub returns-in_err-flow-2-clause-parses : goal.returns-in_err-flow-2-clause-parses
returns-in_err-flow-2-clause-parses c = exit _ c.from_residual-in_err-flow-2.ensures.1 (not_by (other (sym c.next_is.ensures ∙ c.if-next_is.false) (other (sym c.next_is-else-next_is.ensures ∙ c.if-next_is-2.false) (other (sym c.next_is-else-next_is-2.ensures ∙ c.if-next_is-3.false) (this (sym c.next_is-else-next_is-3.ensures ∙ c.if-next_is-4.true))))) (after_token c.in_ok-take-4.ensures.parses (no_part c.in_err-flow-2.ensures.parses)))

pub returns-in_ok-flow-2-clause-parses : goal.returns-in_ok-flow-2-clause-parses
returns-in_ok-flow-2-clause-parses c = by (other (sym c.next_is.ensures ∙ c.if-next_is.false) (other (sym c.next_is-else-next_is.ensures ∙ c.if-next_is-2.false) (other (sym c.next_is-else-next_is-2.ensures ∙ c.if-next_is-3.false) (this (sym c.next_is-else-next_is-3.ensures ∙ c.if-next_is-4.true))))) (then_token c.in_ok-take-4.ensures.parses (then c.in_ok-flow-2.ensures.parses done)) refl

pub returns-in_err-take-5-clause-parses : goal.returns-in_err-take-5-clause-parses
returns-in_err-take-5-clause-parses c = exit _ c.from_residual-in_err-take-5.ensures.1 (not_by (other (sym c.next_is.ensures ∙ c.if-next_is.false) (other (sym c.next_is-else-next_is.ensures ∙ c.if-next_is-2.false) (other (sym c.next_is-else-next_is-2.ensures ∙ c.if-next_is-3.false) (other (sym c.next_is-else-next_is-3.ensures ∙ c.if-next_is-4.false) (this (sym c.next_is-else-next_is-4.ensures ∙ c.if-next_is-5.true)))))) (no_token c.in_err-take-5.ensures.parses))

pub returns-in_err-flow-3-clause-parses : goal.returns-in_err-flow-3-clause-parses
returns-in_err-flow-3-clause-parses c = exit _ c.from_residual-in_err-flow-3.ensures.1 (not_by (other (sym c.next_is.ensures ∙ c.if-next_is.false) (other (sym c.next_is-else-next_is.ensures ∙ c.if-next_is-2.false) (other (sym c.next_is-else-next_is-2.ensures ∙ c.if-next_is-3.false) (other (sym c.next_is-else-next_is-3.ensures ∙ c.if-next_is-4.false) (this (sym c.next_is-else-next_is-4.ensures ∙ c.if-next_is-5.true)))))) (after_token c.in_ok-take-5.ensures.parses (no_part c.in_err-flow-3.ensures.parses)))

pub returns-in_ok-flow-3-clause-parses : goal.returns-in_ok-flow-3-clause-parses
returns-in_ok-flow-3-clause-parses c = by (other (sym c.next_is.ensures ∙ c.if-next_is.false) (other (sym c.next_is-else-next_is.ensures ∙ c.if-next_is-2.false) (other (sym c.next_is-else-next_is-2.ensures ∙ c.if-next_is-3.false) (other (sym c.next_is-else-next_is-3.ensures ∙ c.if-next_is-4.false) (this (sym c.next_is-else-next_is-4.ensures ∙ c.if-next_is-5.true)))))) (then_token c.in_ok-take-5.ensures.parses (then c.in_ok-flow-3.ensures.parses done)) refl

pub returns-in_err-take-6-clause-parses : goal.returns-in_err-take-6-clause-parses
returns-in_err-take-6-clause-parses c = exit _ c.from_residual-in_err-take-6.ensures.1 (not_by (other (sym c.next_is.ensures ∙ c.if-next_is.false) (other (sym c.next_is-else-next_is.ensures ∙ c.if-next_is-2.false) (other (sym c.next_is-else-next_is-2.ensures ∙ c.if-next_is-3.false) (other (sym c.next_is-else-next_is-3.ensures ∙ c.if-next_is-4.false) (other (sym c.next_is-else-next_is-4.ensures ∙ c.if-next_is-5.false) last))))) (no_token c.in_err-take-6.ensures.parses))

pub returns-in_err-packet-clause-parses : goal.returns-in_err-packet-clause-parses
returns-in_err-packet-clause-parses c = exit _ c.from_residual-in_err-packet.ensures.1 (not_by (other (sym c.next_is.ensures ∙ c.if-next_is.false) (other (sym c.next_is-else-next_is.ensures ∙ c.if-next_is-2.false) (other (sym c.next_is-else-next_is-2.ensures ∙ c.if-next_is-3.false) (other (sym c.next_is-else-next_is-3.ensures ∙ c.if-next_is-4.false) (other (sym c.next_is-else-next_is-4.ensures ∙ c.if-next_is-5.false) last))))) (after_token c.in_ok-take-6.ensures.parses (no_part c.in_err-packet.ensures.parses)))

pub returns-in_ok-packet-clause-parses : goal.returns-in_ok-packet-clause-parses
returns-in_ok-packet-clause-parses c = by (other (sym c.next_is.ensures ∙ c.if-next_is.false) (other (sym c.next_is-else-next_is.ensures ∙ c.if-next_is-2.false) (other (sym c.next_is-else-next_is-2.ensures ∙ c.if-next_is-3.false) (other (sym c.next_is-else-next_is-3.ensures ∙ c.if-next_is-4.false) (other (sym c.next_is-else-next_is-4.ensures ∙ c.if-next_is-5.false) last))))) (then_token c.in_ok-take-6.ensures.parses (then c.in_ok-packet.ensures.parses done)) refl
