use Rattle.std.proofs.Common.{sym}
use Rattle.csdn_conditions.specs.Kinds.{events_where}
use Rattle.csdn_conditions.proofs.KindLaws.{length-kinds}
use Rattle.csdn_conditions.proofs.kinds.count_of.Goals as goal

pub returns-clause-count : goal.returns-clause-count
returns-clause-count c = sym (length-kinds (events_where c.args.timed) c.event_count-events.result (sym c.event_count-events.ensures.count) c.event_count-events.ensures.some c.args.level c.args.safety c.args.trans)
