use Rattle.of10_msgs.proofs.Readings.{one-reading}
use Rattle.of10_msgs.proofs.laws.one_reading.Goals as goal

pub returns : goal.returns
returns c = one-reading
