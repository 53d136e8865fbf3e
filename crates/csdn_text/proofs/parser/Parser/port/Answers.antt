use Rattle.std.proofs.Common.{refl}
use Rattle.csdn_text.specs.Machine.Takes.{done}
use Rattle.csdn_text.proofs.Steps.{last, by, not_by, then_token, no_token, after_token, exit}
use Rattle.csdn_text.proofs.parser.Parser.port.Goals as goal

pub returns-in_err-word-clause-parses : goal.returns-in_err-word-clause-parses
returns-in_err-word-clause-parses c = exit _ c.from_residual.ensures.1 (not_by last (no_token c.in_err-word.ensures.parses))

pub returns-in_err-take-clause-parses : goal.returns-in_err-take-clause-parses
returns-in_err-take-clause-parses c = exit _ c.from_residual-in_err-take.ensures.1 (not_by last (after_token c.in_ok-word.ensures.parses (no_token c.in_err-take.ensures.parses)))

pub returns-in_err-number-clause-parses : goal.returns-in_err-number-clause-parses
returns-in_err-number-clause-parses c = exit _ c.from_residual-in_err-number.ensures.1 (not_by last (after_token c.in_ok-word.ensures.parses (after_token c.in_ok-take.ensures.parses (no_token c.in_err-number.ensures.parses))))

pub returns-in_err-take-2-clause-parses : goal.returns-in_err-take-2-clause-parses
returns-in_err-take-2-clause-parses c = exit _ c.from_residual-in_err-take-2.ensures.1 (not_by last (after_token c.in_ok-word.ensures.parses (after_token c.in_ok-take.ensures.parses (after_token c.in_ok-number.ensures.parses (no_token c.in_err-take-2.ensures.parses)))))

pub returns-clause-parses : goal.returns-clause-parses
returns-clause-parses c = by last (then_token c.in_ok-word.ensures.parses (then_token c.in_ok-take.ensures.parses (then_token c.in_ok-number.ensures.parses (then_token c.in_ok-take-2.ensures.parses done)))) refl
