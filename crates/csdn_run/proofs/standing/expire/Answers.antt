use Rattle.std.proofs.Common.{◌∙◌}
use Rattle.net_structs.specs.Rows.{held}
use Rattle.csdn_run.specs.Sights.{standing_of}
use Rattle.csdn_run.proofs.Settled.{ended_is, kept_is}
use Rattle.csdn_run.proofs.standing.expire.Goals as goal

pub returns-in_ok-settle-in-Ok-clause-standing : goal.returns-in_ok-settle-in-Ok-clause-standing
returns-in_ok-settle-in-Ok-clause-standing c =
    kept_is (standing_of c.args.kept.now) c.settle.new.kept c.in-Ok.draft c.in-Ok.tally _ _
    (c.in-Ok.ensures.least ∙ ended_is c.args.setting.now.program.now c.args.setting.now.network.now (held c.args.kept.now.state) c.args.key c.in-Ok.ensures.answer) c.as_slice.ensures
    c.in_ok-settle-in-Ok.ensures.state c.in_ok-settle-in-Ok.ensures.marks c.in_ok-settle-in-Ok.ensures.count
