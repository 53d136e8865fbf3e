use Rattle.csdn_run.specs.Sights.{standing_of}
use Rattle.csdn_run.proofs.Settled.{kept_is, reply_is}
use Rattle.csdn_run.proofs.standing.receive.Goals as goal

pub returns-in_ok-rules-in-Ok-clause-standing : goal.returns-in_ok-rules-in-Ok-clause-standing
returns-in_ok-rules-in-Ok-clause-standing c =
    kept_is (standing_of c.args.kept.now) c.settle.new.kept c.in-Ok.draft c.in-Ok.tally _ _ c.in-Ok.ensures.quiet c.as_slice.ensures
    c.in_ok-rules-in-Ok.ensures.state c.in_ok-rules-in-Ok.ensures.marks c.in_ok-rules-in-Ok.ensures.count

pub returns-in_ok-rules-in-Ok-clause-reply : goal.returns-in_ok-rules-in-Ok-clause-reply
returns-in_ok-rules-in-Ok-clause-reply c =
    reply_is c.args.setting.now.program.now c.args.setting.now.network.now (standing_of c.args.kept.now) c.in-Ok.draft c.in-Ok.tally _ _ _ c.in-Ok.ensures.quiet c.as_slice.ensures
    c.in_ok-rules-in-Ok.ensures.rules
