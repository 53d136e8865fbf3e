use Rattle.csdn_run.proofs.Markings.{set_is}
use Rattle.csdn_run.proofs.marks.Marks.set.Goals as goal

pub returns-clause-marks : goal.returns-clause-marks
returns-clause-marks c = set_is c.args.self.now (record { numbers = c.insert.new.self }) c.of.result c.args.key.now c.args.number c.in_ok-insert.ensures.updates.0 c.of.ensures
