use Rattle.std.proofs.Common.{take}
use Rattle.std.specs.Prelude.{map}
use Rattle.of10_session.specs.Replies.{changing}
use Rattle.of10_session.proofs.Drafts.{written_more, one_more}
use Rattle.of10_session.proofs.reply.change_rules.Goals as goal

pub loop-rule-preserved : goal.loop-rule-preserved
loop-rule-preserved c =
    let more = one_more c.args.rules.now c.loop-rule.rule-index c.rule-item.result c.rule-item.result c.loop-rule-test.true c.rule-item.is in
    let both = written_more c.args.xid c.args.out.now.items c.loop-rule.out.items c.change_rule.new.out.items c.loop-rule.xid c.next-xid.result (map changing (take c.loop-rule.rule-index c.args.rules.now)) (changing c.rule-item.result) _ more c.loop-rule.invariant.next c.loop-rule.invariant.bytes c.in_ok-change_rule.ensures.bytes c.next-xid.ensures in
    record { next = both.0; bytes = both.1 }
