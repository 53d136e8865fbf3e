use Rattle.std.proofs.Common.{refl, sym}
use Rattle.csdn_text.specs.Machine.Takes.{done}
use Rattle.csdn_text.proofs.Steps.{last, by, not_by, then_token, no_token, exit, no_memory}
use Rattle.csdn_text.proofs.parser.Parser.name.Goals as goal

pub returns-in_err-word-clause-parses : goal.returns-in_err-word-clause-parses
returns-in_err-word-clause-parses c = exit _ c.from_residual.ensures.1 (not_by last (no_token c.in_err-word.ensures.parses))

pub returns-in_err-name-clause-parses : goal.returns-in_err-name-clause-parses
returns-in_err-name-clause-parses c = exit _ c.from_residual-in_err-name.ensures.1 (no_memory refl)

pub returns-clause-parses : goal.returns-clause-parses
returns-clause-parses c = by last (then_token c.in_ok-word.ensures.parses done) (sym c.in_ok-name.ensures)
