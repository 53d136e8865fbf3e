use Rattle.std.proofs.Common.{refl, sym, ◌∙◌}
use Rattle.csdn_text.specs.Machine.Takes.{done}
use Rattle.csdn_text.proofs.Steps.{last, this, other, by, not_by, then, no_part, exit}
use Rattle.csdn_text.proofs.parser.Parser.term.Goals as goal

pub returns-in_err-port-clause-parses : goal.returns-in_err-port-clause-parses
returns-in_err-port-clause-parses c = exit _ c.from_residual.ensures.1 (not_by (this (sym c.begins.ensures ∙ c.if-begins.true)) (no_part c.in_err-port.ensures.parses))

pub returns-in_ok-port-clause-parses : goal.returns-in_ok-port-clause-parses
returns-in_ok-port-clause-parses c = by (this (sym c.begins.ensures ∙ c.if-begins.true)) (then c.in_ok-port.ensures.parses done) refl

pub returns-in_err-name-clause-parses : goal.returns-in_err-name-clause-parses
returns-in_err-name-clause-parses c = exit _ c.from_residual-in_err-name.ensures.1 (not_by (other (sym c.begins.ensures ∙ c.if-begins.false) last) (no_part c.in_err-name.ensures.parses))

pub returns-in_ok-name-clause-parses : goal.returns-in_ok-name-clause-parses
returns-in_ok-name-clause-parses c = by (other (sym c.begins.ensures ∙ c.if-begins.false) last) (then c.in_ok-name.ensures.parses done) refl
