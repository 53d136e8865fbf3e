use Rattle.std.proofs.Common.{◌≡◌, ◌++◌, take}
use Rattle.std.specs.Prelude.{map}
use Rattle.of10_session.specs.Replies.{changing, xid_behind, spelled_from}
use Rattle.of10_session.proofs.reply.change_rules.Given as goal

abbrev pub invariant-loop-rule : goal.invariant-loop-rule
invariant-loop-rule l = record {
  next : l.xid ≡ xid_behind l.fn.xid (map changing (take l.rule-index l.rules));
  bytes : l.out.items ≡ l.fn.out.items ++ spelled_from l.fn.xid (map changing (take l.rule-index l.rules));
}
