use Rattle.csdn_tokens.proofs.Digits.{run_of_digits}
use Rattle.csdn_tokens.proofs.number.Goals as goal

pub value-requires : goal.value-requires
value-requires c = rw c.front-len.ensures.value (run_of_digits c.args.text.now)
