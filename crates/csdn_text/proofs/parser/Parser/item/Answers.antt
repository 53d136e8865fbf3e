use Rattle.std.proofs.Common.{refl, sym, ◌∙◌}
use Rattle.csdn_text.specs.Machine.Takes.{done}
use Rattle.csdn_text.proofs.Steps.{last, this, other, by, not_by, then, no_part, exit}
use Rattle.csdn_text.proofs.parser.Parser.item.Goals as goal

pub returns-in_err-whole-clause-parses : goal.returns-in_err-whole-clause-parses
returns-in_err-whole-clause-parses c = exit _ c.from_residual.ensures.1 (not_by (this (sym c.begins.ensures ∙ c.if-begins.true)) (no_part c.in_err-whole.ensures.parses))

pub returns-in_ok-whole-clause-parses : goal.returns-in_ok-whole-clause-parses
returns-in_ok-whole-clause-parses c = by (this (sym c.begins.ensures ∙ c.if-begins.true)) (then c.in_ok-whole.ensures.parses done) refl

pub returns-in_err-whole-2-clause-parses : goal.returns-in_err-whole-2-clause-parses
returns-in_err-whole-2-clause-parses c = exit _ c.from_residual-in_err-whole-2.ensures.1 (not_by (other (sym c.begins.ensures ∙ c.if-begins.false) (this (sym c.begins-else-begins.ensures ∙ c.if-begins-2.true))) (no_part c.in_err-whole-2.ensures.parses))

pub returns-in_ok-whole-2-clause-parses : goal.returns-in_ok-whole-2-clause-parses
returns-in_ok-whole-2-clause-parses c = by (other (sym c.begins.ensures ∙ c.if-begins.false) (this (sym c.begins-else-begins.ensures ∙ c.if-begins-2.true))) (then c.in_ok-whole-2.ensures.parses done) refl

pub returns-in_err-whole-3-clause-parses : goal.returns-in_err-whole-3-clause-parses
returns-in_err-whole-3-clause-parses c = exit _ c.from_residual-in_err-whole-3.ensures.1 (not_by (other (sym c.begins.ensures ∙ c.if-begins.false) (other (sym c.begins-else-begins.ensures ∙ c.if-begins-2.false) (this (sym c.begins-else-begins-2.ensures ∙ c.if-begins-3.true)))) (no_part c.in_err-whole-3.ensures.parses))

pub returns-in_ok-whole-3-clause-parses : goal.returns-in_ok-whole-3-clause-parses
returns-in_ok-whole-3-clause-parses c = by (other (sym c.begins.ensures ∙ c.if-begins.false) (other (sym c.begins-else-begins.ensures ∙ c.if-begins-2.false) (this (sym c.begins-else-begins-2.ensures ∙ c.if-begins-3.true)))) (then c.in_ok-whole-3.ensures.parses done) refl

pub returns-in_err-whole-4-clause-parses : goal.returns-in_err-whole-4-clause-parses
returns-in_err-whole-4-clause-parses c = exit _ c.from_residual-in_err-whole-4.ensures.1 (not_by (other (sym c.begins.ensures ∙ c.if-begins.false) (other (sym c.begins-else-begins.ensures ∙ c.if-begins-2.false) (other (sym c.begins-else-begins-2.ensures ∙ c.if-begins-3.false) (this (sym c.begins-else-begins-3.ensures ∙ c.if-begins-4.true))))) (no_part c.in_err-whole-4.ensures.parses))

pub returns-in_ok-whole-4-clause-parses : goal.returns-in_ok-whole-4-clause-parses
returns-in_ok-whole-4-clause-parses c = by (other (sym c.begins.ensures ∙ c.if-begins.false) (other (sym c.begins-else-begins.ensures ∙ c.if-begins-2.false) (other (sym c.begins-else-begins-2.ensures ∙ c.if-begins-3.false) (this (sym c.begins-else-begins-3.ensures ∙ c.if-begins-4.true))))) (then c.in_ok-whole-4.ensures.parses done) refl

pub returns-in_err-whole-5-clause-parses : goal.returns-in_err-whole-5-clause-parses
returns-in_err-whole-5-clause-parses c = exit _ c.from_residual-in_err-whole-5.ensures.1 (not_by (other (sym c.begins.ensures ∙ c.if-begins.false) (other (sym c.begins-else-begins.ensures ∙ c.if-begins-2.false) (other (sym c.begins-else-begins-2.ensures ∙ c.if-begins-3.false) (other (sym c.begins-else-begins-3.ensures ∙ c.if-begins-4.false) (this (sym c.begins-else-begins-4.ensures ∙ c.if-begins-5.true)))))) (no_part c.in_err-whole-5.ensures.parses))

pub returns-in_ok-whole-5-clause-parses : goal.returns-in_ok-whole-5-clause-parses
returns-in_ok-whole-5-clause-parses c = by (other (sym c.begins.ensures ∙ c.if-begins.false) (other (sym c.begins-else-begins.ensures ∙ c.if-begins-2.false) (other (sym c.begins-else-begins-2.ensures ∙ c.if-begins-3.false) (other (sym c.begins-else-begins-3.ensures ∙ c.if-begins-4.false) (this (sym c.begins-else-begins-4.ensures ∙ c.if-begins-5.true)))))) (then c.in_ok-whole-5.ensures.parses done) refl

pub returns-in_err-whole-6-clause-parses : goal.returns-in_err-whole-6-clause-parses
returns-in_err-whole-6-clause-parses c = exit _ c.from_residual-in_err-whole-6.ensures.1 (not_by (other (sym c.begins.ensures ∙ c.if-begins.false) (other (sym c.begins-else-begins.ensures ∙ c.if-begins-2.false) (other (sym c.begins-else-begins-2.ensures ∙ c.if-begins-3.false) (other (sym c.begins-else-begins-3.ensures ∙ c.if-begins-4.false) (other (sym c.begins-else-begins-4.ensures ∙ c.if-begins-5.false) last))))) (no_part c.in_err-whole-6.ensures.parses))

pub returns-in_ok-whole-6-clause-parses : goal.returns-in_ok-whole-6-clause-parses
returns-in_ok-whole-6-clause-parses c = by (other (sym c.begins.ensures ∙ c.if-begins.false) (other (sym c.begins-else-begins.ensures ∙ c.if-begins-2.false) (other (sym c.begins-else-begins-2.ensures ∙ c.if-begins-3.false) (other (sym c.begins-else-begins-3.ensures ∙ c.if-begins-4.false) (other (sym c.begins-else-begins-4.ensures ∙ c.if-begins-5.false) last))))) (then c.in_ok-whole-6.ensures.parses done) refl
