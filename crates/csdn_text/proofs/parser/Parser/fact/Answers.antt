use Rattle.std.proofs.Common.{refl, sym, ◌∙◌}
use Rattle.csdn_text.specs.Machine.Takes.{done}
use Rattle.csdn_text.proofs.Steps.{last, this, other, by, not_by, then_token, then, no_token, no_part, after_token, exit}
use Rattle.csdn_text.proofs.parser.Parser.fact.Goals as goal

pub returns-in_err-word-clause-parses : goal.returns-in_err-word-clause-parses
returns-in_err-word-clause-parses c = exit _ c.from_residual.ensures.1 (not_by (this (sym c.next_is.ensures ∙ c.if-next_is.true)) (no_token c.in_err-word.ensures.parses))

pub returns-in_err-flow-clause-parses : goal.returns-in_err-flow-clause-parses
returns-in_err-flow-clause-parses c = exit _ c.from_residual-in_err-flow.ensures.1 (not_by (this (sym c.next_is.ensures ∙ c.if-next_is.true)) (after_token c.in_ok-word.ensures.parses (no_part c.in_err-flow.ensures.parses)))

pub returns-in_ok-flow-clause-parses : goal.returns-in_ok-flow-clause-parses
returns-in_ok-flow-clause-parses c = by (this (sym c.next_is.ensures ∙ c.if-next_is.true)) (then_token c.in_ok-word.ensures.parses (then c.in_ok-flow.ensures.parses done)) refl

pub returns-in_err-word-2-clause-parses : goal.returns-in_err-word-2-clause-parses
returns-in_err-word-2-clause-parses c = exit _ c.from_residual-in_err-word-2.ensures.1 (not_by (other (sym c.next_is.ensures ∙ c.if-next_is.false) (this (sym c.next_is-else-next_is.ensures ∙ c.if-next_is-2.true))) (no_token c.in_err-word-2.ensures.parses))

pub returns-in_err-flow-2-clause-parses : goal.returns-in_err-flow-2-clause-parses
returns-in_err-flow-2-clause-parses c = exit _ c.from_residual-in_err-flow-2.ensures.1 (not_by (other (sym c.next_is.ensures ∙ c.if-next_is.false) (this (sym c.next_is-else-next_is.ensures ∙ c.if-next_is-2.true))) (after_token c.in_ok-word-2.ensures.parses (no_part c.in_err-flow-2.ensures.parses)))

pub returns-in_ok-flow-2-clause-parses : goal.returns-in_ok-flow-2-clause-parses
returns-in_ok-flow-2-clause-parses c = by (other (sym c.next_is.ensures ∙ c.if-next_is.false) (this (sym c.next_is-else-next_is.ensures ∙ c.if-next_is-2.true))) (then_token c.in_ok-word-2.ensures.parses (then c.in_ok-flow-2.ensures.parses done)) refl

pub returns-in_err-word-3-clause-parses : goal.returns-in_err-word-3-clause-parses
returns-in_err-word-3-clause-parses c = exit _ c.from_residual-in_err-word-3.ensures.1 (not_by (other (sym c.next_is.ensures ∙ c.if-next_is.false) (other (sym c.next_is-else-next_is.ensures ∙ c.if-next_is-2.false) last)) (no_token c.in_err-word-3.ensures.parses))

pub returns-in_err-packet-clause-parses : goal.returns-in_err-packet-clause-parses
returns-in_err-packet-clause-parses c = exit _ c.from_residual-in_err-packet.ensures.1 (not_by (other (sym c.next_is.ensures ∙ c.if-next_is.false) (other (sym c.next_is-else-next_is.ensures ∙ c.if-next_is-2.false) last)) (after_token c.in_ok-word-3.ensures.parses (no_part c.in_err-packet.ensures.parses)))

pub returns-in_ok-packet-clause-parses : goal.returns-in_ok-packet-clause-parses
returns-in_ok-packet-clause-parses c = by (other (sym c.next_is.ensures ∙ c.if-next_is.false) (other (sym c.next_is-else-next_is.ensures ∙ c.if-next_is-2.false) last)) (then_token c.in_ok-word-3.ensures.parses (then c.in_ok-packet.ensures.parses done)) refl
