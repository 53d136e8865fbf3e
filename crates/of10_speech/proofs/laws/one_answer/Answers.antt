use Rattle.of10_speech.proofs.Ends.{one_spoken}
use Rattle.of10_speech.proofs.laws.one_answer.Goals as goal

pub returns : goal.returns
returns c = one_spoken
