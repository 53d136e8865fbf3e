use Rattle.csdn_text.specs.Answers.{IsTokensRefusal}
use Rattle.csdn_text.specs.Machine.Takes.{done}
use Rattle.csdn_text.proofs.Steps.{then_token, then, no_token, no_part, after_part}
use Rattle.csdn_text.proofs.Whole.{tokens_taken, tokens_failed, exit}
use Rattle.csdn_text.proofs.reading.parse_tokens.Goals as goal

pub returns-in_err-program : goal.returns-in_err-program
returns-in_err-program c = exit _ (IsTokensRefusal c.args.tokens.now) _ c.from_residual.ensures.1 (tokens_failed (no_part c.in_err-program.ensures))

pub returns-in_err-take : goal.returns-in_err-take
returns-in_err-take c =
    exit _ (IsTokensRefusal c.args.tokens.now) _ c.from_residual-in_err-take.ensures.1 (tokens_failed (after_part c.in_ok-program.ensures (no_token c.in_err-take.ensures.parses)))

pub returns : goal.returns
returns c = tokens_taken (then c.in_ok-program.ensures (then_token c.in_ok-take.ensures.parses done))
