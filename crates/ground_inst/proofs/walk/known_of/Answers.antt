use Rattle.ground_inst.proofs.Wholes.{known_counts}
use Rattle.ground_inst.proofs.walk.known_of.Goals as goal

pub returns : goal.returns
returns c = known_counts c.args.parts.now c.known.result c.known-2.result c.known-3.result c.known.ensures c.known-2.ensures c.known-3.ensures
