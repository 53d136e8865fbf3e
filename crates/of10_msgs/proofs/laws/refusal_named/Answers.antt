use Rattle.of10_msgs.proofs.Readings.{refused-place}
use Rattle.of10_msgs.proofs.laws.refusal_named.Goals as goal

pub returns : goal.returns
returns c = λ bytes e h. (refused-place bytes e h).named
