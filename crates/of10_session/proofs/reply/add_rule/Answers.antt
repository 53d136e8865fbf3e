use Rattle.std.proofs.Common.{ap, ◌∙◌}
use Rattle.std.specs.Prelude.{map}
use Rattle.of10_session.specs.Replies.{output_to}
use Rattle.of10_session.proofs.Sendable.{sendable_rule}
use Rattle.of10_session.proofs.reply.add_rule.Goals as goal

pub encode-requires : goal.encode-requires
encode-requires c =
    sendable_rule c.args.xid c.flow_for.result c.args.rule.now.cookie c.args.rule.now.idle c.flags_for.result c.in_ok-outputs.field-0 c.args.rule.now.key.i c.args.rule.now.ports (c.in_ok-outputs.ensures ∙ ap (map (output_to c.args.rule.now.key.i)) c.as_slice.ensures) c.requires.few
