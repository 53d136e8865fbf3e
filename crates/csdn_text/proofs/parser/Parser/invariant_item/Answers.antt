use Rattle.std.proofs.Common.{refl}
use Rattle.csdn_text.specs.Machine.Takes.{done}
use Rattle.csdn_text.proofs.Steps.{last, by, not_by, then_token, then, no_token, no_part, after_token, after_part, exit}
use Rattle.csdn_text.proofs.parser.Parser.invariant_item.Goals as goal

pub returns-in_err-kind-clause-parses : goal.returns-in_err-kind-clause-parses
returns-in_err-kind-clause-parses c = exit _ c.from_residual.ensures.1 (not_by last (no_part c.in_err-kind.ensures.parses))

pub returns-in_err-name-clause-parses : goal.returns-in_err-name-clause-parses
returns-in_err-name-clause-parses c = exit _ c.from_residual-in_err-name.ensures.1 (not_by last (after_part c.in_ok-kind.ensures.parses (no_part c.in_err-name.ensures.parses)))

pub returns-in_err-take-clause-parses : goal.returns-in_err-take-clause-parses
returns-in_err-take-clause-parses c = exit _ c.from_residual-in_err-take.ensures.1 (not_by last (after_part c.in_ok-kind.ensures.parses (after_part c.in_ok-name.ensures.parses (no_token c.in_err-take.ensures.parses))))

pub returns-in_err-formula-clause-parses : goal.returns-in_err-formula-clause-parses
returns-in_err-formula-clause-parses c = exit _ c.from_residual-in_err-formula.ensures.1 (not_by last (after_part c.in_ok-kind.ensures.parses (after_part c.in_ok-name.ensures.parses (after_token c.in_ok-take.ensures.parses (no_part c.in_err-formula.ensures.parses)))))

pub returns-in_err-take-2-clause-parses : goal.returns-in_err-take-2-clause-parses
returns-in_err-take-2-clause-parses c = exit _ c.from_residual-in_err-take-2.ensures.1 (not_by last (after_part c.in_ok-kind.ensures.parses (after_part c.in_ok-name.ensures.parses (after_token c.in_ok-take.ensures.parses (after_part c.in_ok-formula.ensures.parses (no_token c.in_err-take-2.ensures.parses))))))

pub returns-clause-parses : goal.returns-clause-parses
returns-clause-parses c = by last (then c.in_ok-kind.ensures.parses (then c.in_ok-name.ensures.parses (then_token c.in_ok-take.ensures.parses (then c.in_ok-formula.ensures.parses (then_token c.in_ok-take-2.ensures.parses done))))) refl
