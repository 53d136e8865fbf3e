use Rattle.csdn_tokens.proofs.Digits.{exceeds}
use Rattle.csdn_tokens.proofs.value.Goals as goal

pub returns-then-value-gt-GREATEST : goal.returns-then-value-gt-GREATEST
returns-then-value-gt-GREATEST c = exceeds _ _ _ c.loop-digits.invariant.0 c.loop-digits.invariant.1 c.in-len1-up.len_at_least c.if-value-gt-GREATEST.true
