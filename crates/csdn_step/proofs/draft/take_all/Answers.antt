use Rattle.csdn_step.proofs.Tuples.{popped}
use Rattle.csdn_step.proofs.draft.take_all.Goals as goal

pub rows-preserved : goal.rows-preserved
rows-preserved c = popped c.rows.left c.pop.new.self c.in-Some.row c.rows.state c.remove.new.self _ c.in-Some.ensures c.remove.ensures.rows c.rows.invariant
