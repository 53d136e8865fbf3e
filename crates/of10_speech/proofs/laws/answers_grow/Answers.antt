use Rattle.of10_speech.proofs.Beginnings.{spoken_begins}
use Rattle.of10_speech.proofs.laws.answers_grow.Goals as goal

pub returns : goal.returns
returns c = spoken_begins
