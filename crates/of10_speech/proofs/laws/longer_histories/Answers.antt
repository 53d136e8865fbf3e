use Rattle.of10_speech.proofs.Ends.{spoken_further}
use Rattle.of10_speech.proofs.laws.longer_histories.Goals as goal

pub returns : goal.returns
returns c = spoken_further
