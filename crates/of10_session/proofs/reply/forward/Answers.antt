use Rattle.std.proofs.Common.{ap, ◌∙◌, ◌++◌, List}
use Rattle.std.specs.Prelude.{map}
use Rattle.csdn_history.specs.declared.reply.Rule.{Rule}
use Rattle.csdn_core.specs.declared.event.Out.{Out}
use Rattle.of10_session.specs.Replies.{changing, going_on, xid_behind, spelled_from}
use Rattle.of10_session.proofs.Drafts.{xid_then, bytes_then}
use Rattle.of10_session.proofs.reply.forward.Goals as goal

pub returns-clause-xid : goal.returns-clause-xid
returns-clause-xid c =
    xid_then c.args.xid c.in_ok-after.after c.in_ok-last.last (map changing c.args.reply.now.rules) (going_on c.args.buffer_id c.args.in_port c.args.body.now c.args.reply.now.outs)
    (c.in_ok-after.ensures.xid ∙ ap (λ (rs : List Rule). xid_behind c.args.xid (map changing rs)) c.as_slice.ensures)
    (c.in_ok-last.ensures.xid ∙ ap (λ (os : List Out). xid_behind c.in_ok-after.after (going_on c.args.buffer_id c.args.in_port c.args.body.now os)) c.as_slice-2.ensures)

pub returns-clause-bytes : goal.returns-clause-bytes
returns-clause-bytes c =
    bytes_then c.args.xid c.args.out.now.items c.change_rules.new.out.items c.go_on.new.out.items c.in_ok-after.after (map changing c.args.reply.now.rules) (going_on c.args.buffer_id c.args.in_port c.args.body.now c.args.reply.now.outs)
    (c.in_ok-after.ensures.xid ∙ ap (λ (rs : List Rule). xid_behind c.args.xid (map changing rs)) c.as_slice.ensures)
    (c.in_ok-after.ensures.bytes ∙ ap (λ (rs : List Rule). c.args.out.now.items ++ spelled_from c.args.xid (map changing rs)) c.as_slice.ensures)
    (c.in_ok-last.ensures.bytes ∙ ap (λ (os : List Out). c.change_rules.new.out.items ++ spelled_from c.in_ok-after.after (going_on c.args.buffer_id c.args.in_port c.args.body.now os)) c.as_slice-2.ensures)
