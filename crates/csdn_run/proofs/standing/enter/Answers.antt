use Rattle.std.proofs.Common.{◌∙◌, sym, ap}
use Rattle.std.proofs.lemmas.Result.{IfOk-weaker}
use Rattle.csdn_run.specs.Replies.{reply_in}
use Rattle.csdn_run.specs.Sights.{standing_of}
use Rattle.csdn_run.proofs.Settled.{packet_reply}
use Rattle.csdn_run.proofs.standing.enter.Goals as goal

pub returns-in-Packet-clause-reply : goal.returns-in-Packet-clause-reply
returns-in-Packet-clause-reply c =
    IfOk-weaker c.receive.result _ _
    (λ reply is.
    is ∙ packet_reply c.args.setting.now.program.now c.args.setting.now.network.now (standing_of c.args.kept.now) c.in-Packet.seat c.in-Packet.session c.in-Packet.s c.in-Packet.a c.in-Packet.b c.in-Packet.i
    ∙ ap (reply_in c.args.setting.now.program.now c.args.setting.now.network.now (standing_of c.args.kept.now)) (sym c.in-Packet.is))
    c.receive.ensures.reply
