use Rattle.std.proofs.Common.{refl}
use Rattle.of10_stream.proofs.FramerLaws.{open_new}
use Rattle.of10_stream.proofs.framer.Framer.try_new.Goals as goal

pub returns-clause-open : goal.returns-clause-open
returns-clause-open c = open_new _ refl refl
