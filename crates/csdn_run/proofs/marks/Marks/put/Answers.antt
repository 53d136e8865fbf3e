use Rattle.csdn_run.proofs.Markings.{set_is}
use Rattle.csdn_run.proofs.marks.Marks.put.Goals as goal

pub returns-in-Ok-clause-marks : goal.returns-in-Ok-clause-marks
returns-in-Ok-clause-marks c = set_is c.args.self.now (record { numbers = c.insert.new.self }) c.of.result c.args.key.now c.args.number c.in-Ok.ensures.updates.0 c.of.ensures
